use Rattle.std.proofs.Common.{◌≡◌, drop}
use Rattle.idl_macro.specs.conditions.Condition.{condition}
use Rattle.idl_macro.specs.conditions.Waiting.{meaning_at, IsSound}
use Rattle.idl_macro.proofs.conditions.condition.evaluate.Given as goal

abbrev pub invariant-symbols : goal.invariant-symbols
invariant-symbols l = record {
  same : meaning_at l.place l.stack (drop l.symbol-index l.symbols) ≡ condition l.symbols;
  sound : IsSound l.place l.stack;
}
