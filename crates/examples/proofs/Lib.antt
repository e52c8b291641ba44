pub mod Table
pub mod Sampled
pub mod SampledEdits
pub mod SampledSorts
pub mod SampledAnswers
