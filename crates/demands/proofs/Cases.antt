-- The twelve (P) cases hold, by computing the table; and what is found, on each page, of the samples that shut a program out.
use Prim.Native.Nat.{ℕ}
use mathlib.Core.Path.{◌≡◌, refl}
use mathlib.Core.Bool.{Bool, true}
use mathlib.Core.List.{List, [], ◌∷◌}
use lib.Dec.{eqb, ltb}
use Rattle.laws.specs.Scan.{from, run}
use Rattle.charset.specs.Table.{rep}
use Rattle.records.specs.Places.{part}
use Rattle.fields.specs.Class.{every, all_of, blank, same}
use Rattle.fields.specs.Number.{dec, is_date}
use Rattle.fields.specs.Bic.{bic_shape}
use Rattle.fields.specs.Lists.{is_listed, is_taken}
use Rattle.rules.specs.Wrong.{line_blank}
use Rattle.rules.specs.Q.{rule10, rule11, rule12, rule13, rule14, rule15, rule16}
use Rattle.rules.specs.Z.{rule40, rule41, rule42}
use Rattle.rules.specs.Faults.{q_rules, z_rules, q_fault, z_fault}
use Rattle.payments.specs.Rules.{is_transfer, is_cheque, is_country, is_two_capitals, has_bic, rule20, rule21, rule22, rule23, rule24, rule25, rule26, rule27, rule28, rule29, rule30, rule31, rule32, rule33, rule34, rule35, key_of}
use Rattle.payments.specs.Faults.{t_rules, t_fault}
use Rattle.structure.specs.Slots.{slot_at}
use Rattle.structure.specs.Walk.{fault_in, structure_of}
use Rattle.structure.specs.Shape.{Shape, Fits}
use Rattle.judge.specs.Content.{fault_of, content_of}
use Rattle.judge.specs.Sums.{euro_sum, cent_sum, file_number}
use Rattle.judge.specs.Verdict.{verdict_of, judge_of}
use Rattle.forwarding.specs.Text.{textual, text_at}
use Rattle.forwarding.specs.Forwarded.{notes_of}
use Rattle.demands.specs.Sample.{two, transfer, cheque}
use Rattle.demands.specs.Cases.{Cases}

-- a file of the samples, which document 01 gives the note of: "Its one note is 316198: place 256 + 768 + 211 = 1235, byte 38"
abbrev pub noted : List ℕ
noted = two "M&M STUDIO" "000000000000199"

-- one whose second payee is blank after replacement
abbrev pub blanked : List ℕ
blanked = two "=" "000000000000199"

-- each row of a record's rules says that its rule holds
abbrev pub quiet : List (ℕ × ℕ) → Bool
quiet rows = every (λ (row : ℕ × ℕ). eqb row.1 0) rows

-- what is found on a page of the empty file, of that one and of this
pub record Found : Type 0 where
  pub of_empty : ℕ
  pub of_noted : ℕ
  pub noted_bytes : Bool
  pub noted_notes : List ℕ
  pub of_blanked : ℕ
  pub blanked_shape : Shape
  pub q_quiet : Bool
  pub t_quiet : Bool
  pub z_quiet : Bool

abbrev pub found : ℕ → Found
found page =
    record {
      of_empty = (verdict_of page [] transfer cheque).number;
      of_noted = (verdict_of page noted transfer cheque).number;
      noted_bytes = every (λ (b : ℕ). ltb b 256) noted;
      noted_notes = notes_of page noted;
      of_blanked = (verdict_of page blanked transfer cheque).number;
      blanked_shape = structure_of blanked;
      q_quiet = quiet (q_rules page (slot_at blanked 0));
      t_quiet = quiet (t_rules page transfer cheque (key_of (slot_at blanked 1)) (slot_at blanked 1));
      z_quiet = quiet (z_rules 2 (euro_sum blanked 2) (slot_at blanked 3));
    }

abbrev pub due : Found
due =
    record {
      of_empty = 2;
      of_noted = 0;
      noted_bytes = true;
      noted_notes = 316198 ∷ [];
      of_blanked = 29;
      blanked_shape = Fits 2;
      q_quiet = true;
      t_quiet = true;
      z_quiet = true;
    }

pub cases_hold : Cases × (found 0 ≡ due) × (found 1 ≡ due)
unfolding
    from run rep part all_of blank same dec is_date bic_shape is_listed is_taken line_blank rule10 rule11 rule12 rule13 rule14 rule15 rule16 rule40 rule41 rule42
    q_fault z_fault is_transfer is_cheque is_country is_two_capitals has_bic rule20 rule21 rule22 rule23 rule24 rule25 rule26 rule27 rule28 rule29 rule30 rule31 rule32
    rule33 rule34 rule35 t_fault slot_at fault_in structure_of fault_of content_of euro_sum cent_sum file_number verdict_of judge_of textual text_at notes_of
cases_hold = (tt, refl, refl)
