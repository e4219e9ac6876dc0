-- The log of a block, so far as its text goes.
use Rattle.std.specs.Prelude.{ℕ, Bool, List, [], ◌∷◌, Option, map, nat_lt}
use Rattle.std.specs.List.{filter}
use Rattle.idl_block.specs.Questions.{outer_asked}
use Rattle.idl_env.specs.Facts.{UnitFacts, answers, boundary}
use Rattle.idl_env.specs.Written.{last_written}
use Rattle.idl_env.specs.declared.additions.addition.Step.TheVariants.{Enters}
use Rattle.idl_env.specs.declared.answering.answer.Answer.{Answer}
use Rattle.idl_env.specs.declared.keys.key.Key.{Key}
use Rattle.idl_env.specs.keys.Key.{key_eq}
use Rattle.idl_memo.specs.Query.{noted_all}
use Rattle.idl_root_blocks.specs.Blocks.{parts_of}
use Rattle.idl_root_blocks.specs.Places.{unit_ways}
use Rattle.idl_root_blocks.specs.declared.text.BlockPart.{BlockPart}

abbrev pub Log : Type 0
Log = List (Key × Option Answer)

-- what the units of a text have asked that they had not written, behind these facts
abbrev pub outer_log : List UnitFacts → List BlockPart → Log
outer_log before text =
    let outer = outer_asked unit_ways (parts_of text) (boundary Enters ∷ []) (answers before) in
    noted_all key_eq (answers before) [] outer

-- nothing was written at a key by the facts of this number, or later ones
abbrev pub is_unwritten : List UnitFacts → ℕ → Key → Bool
is_unwritten facts start k = nat_lt (last_written facts k) start

-- a log with those keys of another at which nothing was written since the facts of this number
abbrev pub noted_over : List UnitFacts → ℕ → Log → Log → Log
noted_over facts start log entries =
    noted_all key_eq (answers facts) log
    (filter (is_unwritten facts start) (map (λ e. e.0) entries))
