pub mod JoinedLines
pub mod DomainLines
pub mod RuleLines
pub mod RowLines
pub mod ListingParts
