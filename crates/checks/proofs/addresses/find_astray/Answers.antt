use Rattle.std.proofs.Common.{◌≡◌, ◌-◌, ap, sym, subst, Some, ◌∙◌, rules, arith, length, drop, length-drop, take_all}
use Rattle.std.proofs.lemmas.List.{drop-map}
use Rattle.checks.specs.Rows.{block_entry}
use Rattle.checks.proofs.Fronts.{front, clear_of, astray_front, owned_front}
use Rattle.search.specs.List.{Says, row_holds}
use Rattle.model.specs.Properties.{Of}
use Rattle.model.proofs.Meanings.{of_one}
use Rattle.checks.specs.Addresses.{Home, CoversAt, domain_in}
use Rattle.checks.proofs.Owners.{called_of, covered_of, called_astray, value_in}
use Rattle.checks.proofs.addresses.find_astray.Goals as goal

pub returns-then-home-domain : goal.returns-then-home-domain
returns-then-home-domain g c t blocks =
    let a = g.A.Kind in
    let of = called_of a.holds g.R.Kind.holds a.plain a.region g.met.A.Kind.rereads t _ blocks.same c.pick-address.result c.outcome_of-found.result c.outcome_of-found.ensures in
    (c.pick-address.ensures, λ other. c.if-home-domain.true (c.domain_in-home.ensures ∙ of_one a.holds g.R.Kind.holds t blocks.owned.apart c.pick-address.result _ c.args.domain of other))

pub returns-then-covers_at : goal.returns-then-covers_at
returns-then-covers_at g c t blocks =
    let a = g.A.Kind in
    let says : Says (row_holds a.holds a.region) c.args.blocks.now c.pick-address.result (Some c.in-Some.block) = subst (Says (row_holds a.holds a.region) c.args.blocks.now c.pick-address.result) c.in-Some.is c.outcome_of-found.ensures in
    let home : c.in-Some.block.outcome ≡ c.args.domain = sym (ap domain_in c.in-Some.is) ∙ sym c.domain_in-home.ensures ∙ c.if-home-domain.false in
    let covers : CoversAt a.holds a.region c.args.blocks.now c.in-Some.block.position c.args.region = search rules in
    subst (λ d. (v : _) → a.holds c.args.region v → Of a.holds g.R.Kind.holds t v d) home (covered_of a.holds g.R.Kind.holds a.plain a.region g.met.A.Kind.rereads t c.args.blocks.now blocks.same c.pick-address.result c.in-Some.block says c.args.region covers)

pub returns : goal.returns
returns g c t blocks =
    let a = g.A.Kind in
    let n = c.first_meeting.result in
    let home = subst (λ d. Home d c.home_of.result) c.if-home-domain.false c.home_of.ensures in
    let found : c.map.result ≡ value_in c.find.result = search rules in
    let clear = clear_of a.holds g.R.Kind.holds a.plain a.region g.met.A.Kind.rereads t c.args.region n c.args.blocks.now blocks.same c.first_meeting.ensures.before in
    let size = length-drop n c.args.blocks.now in
    let part = take_all (length c.args.blocks.now - n) (drop n c.args.blocks.now) (omega arith) ∙ ap (drop n) blocks.same ∙ drop-map (block_entry a.plain) n t.blocks in
    rw found (astray_front a.holds g.R.Kind.holds a.plain a.region g.met.A.Kind.rereads t c.args.region n clear c.args.domain (value_in c.find.result) (called_astray a.holds g.R.Kind.holds a.plain a.region g.met.A.Kind.rereads (front a.holds g.R.Kind.holds a.plain a.region g.met.A.Kind.rereads t c.args.region n) (owned_front a.holds g.R.Kind.holds a.plain a.region g.met.A.Kind.rereads t c.args.region n blocks.owned) _ part g.met.A.Kind.decided c.args.region c.args.domain c.home_of.result home c.find.result c.find.ensures))
