-- What memory that is not too short has room for.
use Rattle.std.proofs.Common.{◌≤◌, ◌⊎◌, inl, inr}
use Rattle.std.proofs.lemmas.Bool.{cases_lt}
use Rattle.model.specs.Limits.{max_rules, max_blocks, max_properties, min_packet_frames, min_address_frames}
use Rattle.model.specs.Refusals.{IsTooShort}
use Rattle.model.specs.declared.answers.Lent.{Lent}

pub record Enough (l : Lent) : Type 0 where
  pub rules : max_rules ≤ l.rules
  pub blocks : max_blocks ≤ l.blocks
  pub properties : max_properties ≤ l.properties
  pub packet_frames : min_packet_frames ≤ l.packet_frames
  pub address_frames : min_address_frames ≤ l.address_frames

pub short_or_enough : (l : Lent) → IsTooShort l ⊎ Enough l
short_or_enough l = elim (cases_lt l.rules max_rules) [
  | inl short ↦ inl (inl short)
  | inr a ↦ elim (cases_lt l.blocks max_blocks) [
    | inl short ↦ inl (inr (inl short))
    | inr b ↦ elim (cases_lt l.properties max_properties) [
      | inl short ↦ inl (inr (inr (inl short)))
      | inr c ↦ elim (cases_lt l.packet_frames min_packet_frames) [
        | inl short ↦ inl (inr (inr (inr (inl short))))
        | inr d ↦ elim (cases_lt l.address_frames min_address_frames) [
          | inl short ↦ inl (inr (inr (inr (inr short))))
          | inr e ↦ inr (record { rules = a; blocks = b; properties = c; packet_frames = d; address_frames = e })
        ]
      ]
    ]
  ]
]

pub lent_enough : (l : Lent) → (IsTooShort l → ⊥) → Enough l
lent_enough l long = elim (short_or_enough l) [ inl short ↦ absurd (long short) | inr enough ↦ enough ]
