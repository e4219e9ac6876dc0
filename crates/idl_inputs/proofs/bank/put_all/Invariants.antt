use Rattle.std.proofs.Common.{◌≡◌, ◌+◌, ◌≤◌, ℕ, List, length}
use Rattle.std.specs.Map.{lookup}
use Rattle.std.specs.Option.{unwrap_or}
use Rattle.std.specs.Str.{bytes_eq}
use Rattle.indexmap.specs.IndexMap.{spare}
use Rattle.idl_inputs.proofs.bank.put_all.Given as goal

-- those that are left, over those that were put in, answer as all of them over those before
abbrev pub invariant-loop-done : goal.invariant-loop-done
invariant-loop-done l = record {
  answered : (name : List ℕ) → unwrap_or (lookup (bytes_eq name) l.left.entries) (lookup (bytes_eq name) l.texts.entries)
      ≡ unwrap_or (lookup (bytes_eq name) l.fn.answers.entries) (lookup (bytes_eq name) l.fn.texts.entries);
  room : length l.left.entries ≤ spare l.texts;
  left : length l.left.entries + l._done ≡ length l.fn.answers.entries;
}
