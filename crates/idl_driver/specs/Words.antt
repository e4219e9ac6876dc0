-- What words ask for of files: the options that a program has for that, and what is found of them
-- by clap's `matches_of`.
use Rattle.std.specs.Prelude.{◌≡◌, ℕ, List, [], ◌∷◌, Some, Bool, codes, map, nat_lt, unwrap_or}
use Rattle.clap.specs.Words.{App, Row, Rule, Text, all_of, count_of, new_rule, with_rule}
use Rattle.clap.specs.declared.builder.action.ArgAction.TheVariants.{Append, Count}
use Rattle.idl_driver.specs.declared.options.Options.{Options}

-- an option of one letter with a value, which may stand again
abbrev pub option_rule : Text → ℕ → Rule
option_rule id letter =
    record (new_rule id) { short = Some letter; action = Some Append; value_names = 1 }

-- an option without a value, which may stand again
abbrev pub flag_rule : Text → Rule
flag_rule id = record (new_rule id) { action = Some Count }

-- words that are no option's
abbrev pub file_rule : Rule
file_rule = record (new_rule (codes "file")) { action = Some Append; value_names = 1 }

-- `-D`, `-U`, `-I`
abbrev pub option_rules : List Rule
option_rules = option_rule (codes "define") 68
    ∷ option_rule (codes "undefine") 85
    ∷ option_rule (codes "directory") 73
    ∷ []

abbrev pub with_rules : App → List Rule → App
with_rules app [] = app
with_rules app (rule ∷ rules) = with_rules (with_rule app rule) rules

-- the values that stand for an option, in the order of the words
abbrev pub values_of : Text → List Row → List Text
values_of id rows = unwrap_or (all_of id rows) []

-- an option stands among the words
abbrev pub stands : Text → List Row → Bool
stands id rows = nat_lt 0 (count_of id rows)

-- what is asked for of files
pub record AreOptionsOf (rows : List Row) (options : Options) : Type 0 where
  pub defines : map (λ w. w.now) options.defines.items ≡ values_of (codes "define") rows
  pub undefines : map (λ w. w.now) options.undefines.items ≡ values_of (codes "undefine") rows
  pub directories : map (λ w. w.now) options.directories.items ≡ values_of (codes "directory") rows
  pub files : map (λ w. w.now) options.files.items ≡ values_of (codes "file") rows
  pub dump : options.shows_dump ≡ stands (codes "dump") rows
  pub listing : options.shows_listing ≡ stands (codes "listing") rows
