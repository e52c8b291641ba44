-- A line is known by its verb and its values.
use Rattle.std.proofs.Common.{◌≡◌, ℕ, refl, ap}
use Rattle.forms.specs.declared.prefix.Prefix as prefix
use Rattle.model.specs.declared.calls.Call.TheVariants as call
use Rattle.model.specs.declared.rules.Header.{Header}
use Rattle.model.specs.declared.rules.Property as property
use Rattle.model.specs.declared.rules.Rule as rule
use Rattle.grammar.specs.Lines.{LongRest, LongRestValue, rule_values, property_values, header_values, verb_of, values_of}
use Rattle.grammar.specs.declared.line.Line.{Line}
use Rattle.grammar.specs.declared.line.Line.TheVariants as line

same_rule : (f g p q : ℕ) (r s : rule.Rule prefix.Prefix LongRest) → rule_values f p r ≡ rule_values g q s → r ≡ s
same_rule f g p q r s e =
    let interfaces : r.interfaces ≡ s.interfaces = cc in
    let source : r.source ≡ s.source = cc in
    let destination : r.destination ≡ s.destination = cc in
    let left : r.rest.left ≡ s.rest.left = cc in
    let middle : r.rest.right.left ≡ s.rest.right.left = cc in
    let right : r.rest.right.right ≡ s.rest.right.right = cc in
    let decision : r.decision ≡ s.decision = cc in
    λ i. record {
      interfaces = interfaces i;
      source = source i;
      destination = destination i;
      rest = record { left = left i; right = record { left = middle i; right = right i } };
      decision = decision i;
    }

same_property : (p q : property.Property prefix.Prefix LongRest) → property_values p ≡ property_values q → p ≡ q
same_property p q e =
    let sort : p.sort ≡ q.sort = cc in
    let from : p.from ≡ q.from = cc in
    let to : p.to ≡ q.to = cc in
    let source : p.source ≡ q.source = cc in
    let destination : p.destination ≡ q.destination = cc in
    let left : p.rest.left ≡ q.rest.left = cc in
    let middle : p.rest.right.left ≡ q.rest.right.left = cc in
    let right : p.rest.right.right ≡ q.rest.right.right = cc in
    λ i. record {
      sort = sort i;
      from = from i;
      to = to i;
      source = source i;
      destination = destination i;
      rest = record { left = left i; right = record { left = middle i; right = right i } };
    }

same_header : (h k : Header ℕ LongRestValue) → header_values h ≡ header_values k → h ≡ k
same_header h k e =
    let source : h.source ≡ k.source = cc in
    let destination : h.destination ≡ k.destination = cc in
    let left : h.rest.left ≡ k.rest.left = cc in
    let middle : h.rest.right.left ≡ k.rest.right.left = cc in
    let right : h.rest.right.right ≡ k.rest.right.right = cc in
    λ i. record {
      source = source i;
      destination = destination i;
      rest = record { left = left i; right = record { left = middle i; right = right i } };
    }

pub same_line : (l m : Line) → verb_of l ≡ verb_of m → values_of l ≡ values_of m → l ≡ m
same_line line.Heading line.Heading v s = refl
same_line (line.Call (call.Attach d i j w)) (line.Call (call.Attach e k l x)) v s = cc
same_line (line.Call (call.Branch f i)) (line.Call (call.Branch g j)) v s = cc
same_line (line.Call (call.Give d x)) (line.Call (call.Give e y)) v s = cc
same_line (line.Call (call.Take b)) (line.Call (call.Take c)) v s = cc
same_line (line.Call (call.Place f p r)) (line.Call (call.Place g q t)) v s = let rules = same_rule f g p q r t s in cc
same_line (line.Call (call.Alter f p r)) (line.Call (call.Alter g q t)) v s = let rules = same_rule f g p q r t s in cc
same_line (line.Call (call.Lift f p)) (line.Call (call.Lift g q)) v s = cc
same_line (line.Call (call.Stand p)) (line.Call (call.Stand q)) v s = ap (λ x. line.Call (call.Stand x)) (same_property p q s)
same_line (line.Call (call.Withdraw n)) (line.Call (call.Withdraw m)) v s = cc
same_line (line.Call (call.Ask p)) (line.Call (call.Ask q)) v s = ap (λ x. line.Call (call.Ask x)) (same_property p q s)
same_line (line.Call (call.Send h)) (line.Call (call.Send k)) v s = ap (λ x. line.Call (call.Send x)) (same_header h k s)
same_line (line.List k) (line.List j) v s = cc
same_line line.Heading (line.Call (call.Take b)) v s = cc
same_line (line.List k) (line.Call (call.Take b)) v s = cc
same_line l m v s = cc
