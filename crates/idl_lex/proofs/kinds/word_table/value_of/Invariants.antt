use Rattle.std.proofs.Common.{◌≡◌, drop, map}
use Rattle.idl_lex.specs.kinds.WordTable.{entry_of, value_of}
use Rattle.idl_lex.proofs.kinds.word_table.value_of.Given as goal

abbrev pub invariant-loop-entry : goal.invariant-loop-entry
invariant-loop-entry g l = value_of (map entry_of (drop l.entry-index l.entries)) l.word ≡ value_of (map entry_of l.entries) l.word
