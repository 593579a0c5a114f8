use Rattle.std.proofs.Common.{rules, ◌≡◌, ◌<◌, ℕ, List, length, get_or, Bool, true, false, arith}
use Rattle.std.specs.Prelude.{MatchBool}
use Rattle.std.proofs.iter.runs.Sources.{ranges}
use Rattle.laws.specs.Every.{same}
use Rattle.check_replay.specs.Entries.{entry_value, values_in}
use Rattle.check_replay.proofs.Replayed.{not_same, all_same}
use Rattle.check_replay.proofs.same_values.Goals as goal

told : (values bytes : List ℕ) (b : Bool) → length values ≡ 48
    → MatchBool b ((k : ℕ) → k < 48 → get_or values k 0 ≡ entry_value bytes k) ((k : ℕ) × (k < 48) × (get_or values k 0 ≡ entry_value bytes k → ⊥))
    → b ≡ same values (values_in bytes)
told values bytes true l h = all_same values bytes 48 l (omega arith) h
told values bytes false l h = not_same values bytes h.0 h.1 h.2

pub returns : goal.returns
returns c = told c.args.values.now c.args.bytes.now c.all.result c.requires.0 (search (rules, ranges))
