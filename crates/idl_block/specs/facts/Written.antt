-- Where facts write over a bank, and blocks of the units that add them.
use Rattle.std.specs.Prelude.{Bool, List, Option}
use Rattle.idl_block.specs.Blocks.{Ways}
use Rattle.idl_env.specs.Facts.{UnitFacts, boundary}
use Rattle.idl_env.specs.Written.{written_from}
use Rattle.idl_env.specs.declared.additions.addition.Step.{Step}
use Rattle.idl_env.specs.declared.answering.answer.Answer.{Answer}
use Rattle.idl_env.specs.declared.keys.key.Key.{Key}
use Rattle.idl_block.specs.facts.Answered.{Asking, answered}
use Rattle.idl_block.specs.facts.Beneath.{start}

-- facts write at a key over a bank
abbrev pub is_written : List UnitFacts → (Key → Option Answer) → Key → Bool
is_written facts bank k = written_from (start bank) facts k

-- units that ask this and add these facts, in blocks
abbrev pub ways_of : {T O : Type 0} → (T → Asking O) → (O → UnitFacts)
    → Ways Key (Option Answer) (Unit {0}) T Step UnitFacts O
ways_of unit writes = record {
  unit = unit;
  writes = writes;
  boundary = boundary;
  answered = answered;
  is_written = is_written;
}
