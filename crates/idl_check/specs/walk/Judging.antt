-- What the laws of verdicts speak of.
use Rattle.std.specs.Prelude.{◌≡◌, ◌<◌, ◌≤◌, ◌⊎◌, ◌+◌, ◌^◌, ℕ, length, max, Bool, false, List, [], ◌∷◌, flat_map, Option, None, Some}
use Rattle.idl_check.specs.walk.AllFaults.{site_faults}
use Rattle.idl_check.specs.walk.Placing.{opened_kind, opening_faults}
use Rattle.idl_check.specs.tables.Rules.{is_misplaced}
use Rattle.idl_check.specs.ids.Pragmas.{said}
use Rattle.idl_check.specs.walk.Verdict.{sound}
use Rattle.idl_check.specs.walk.Walk.{Walk, begin_of, first_walk, visit}
use Rattle.idl_check.specs.declared.walk.verdict.Verdict.{Verdict}
use Rattle.idl_fault.specs.Code.{number_of}
use Rattle.idl_lex.specs.tokens.Tokens.{Token}
use Rattle.idl_memo.specs.Query.{outcome}
use Rattle.idl_env.specs.Facts.{scopes_in}
use Rattle.idl_env.specs.declared.additions.addition.Step.{Step}
use Rattle.idl_env.specs.declared.additions.addition.Step.TheVariants.{Opens, OpensNameless}
use Rattle.idl_env.specs.declared.answering.answer.Answer.{Answer}
use Rattle.idl_env.specs.declared.answering.answer.Scope.{Scope}
use Rattle.idl_env.specs.declared.keys.key.Key.{Key}
use Rattle.idl_env.specs.declared.keys.key.Key.TheVariants.{Cursor, Nameless}
use Rattle.idl_parts.specs.Item.{Item, item_length, items}
use Rattle.idl_parts.specs.Part.{Part as item}
use Rattle.idl_parts.specs.UnitParts.{unit_parts}
use Rattle.idl_tree.specs.Lexeme.{lexemes}
use Rattle.idl_tree.specs.Pragma.{pragma_of}
use Rattle.idl_tree.specs.Unit.{spell}
use Rattle.idl_tree.specs.declared.name.ScopedName.{ScopedName}
use Rattle.idl_tree.specs.declared.pragma.Pragma.{Pragma}
use Rattle.idl_tree.specs.declared.unit.Tree.{Tree}
use Rattle.idl_unit.specs.TokenRules.{token_faults}
use Rattle.idl_unit.specs.declared.fault.Fault.{Fault}
use Rattle.idl_unit.specs.declared.unit.UnitText.{UnitText}
use Rattle.idl_unit.specs.declared.unit.UnitText.TheVariants as unit

-- a fault at an earlier token than another, or at the same with no greater code
abbrev pub IsNotAfter : Fault → Fault → Type 0
IsNotAfter f g =
    (f.index < g.index) ⊎ ((f.index ≡ g.index) × (number_of f.code ≤ number_of g.code))

-- no unit that memory holds has 2^64 tokens
abbrev pub FitsMemory : UnitText → Type 0
FitsMemory (unit.Tokens tokens) = length tokens < 2 ^ 64
FitsMemory (unit.Pragma tokens inside) = Unit {0}

-- what a faulty unit of these tokens asks beside the open scopes
abbrev pub refused_keys : List Token → List Key
refused_keys tokens = elim (opened_kind tokens) [ None ↦ [] | Some kind ↦ Nameless ∷ [] ]

-- a step that opens a nameless scope where it opens a named one
abbrev pub without_name : Step → Step
without_name (Opens path kind) = OpensNameless kind
without_name other = other

module _ (turns : ℕ) (answers : Key → Option Answer) where
  -- a walk after all of these sites
  abbrev pub walked : List Item → Walk → Walk
  walked [] w = w
  walked (site ∷ sites) w = walked sites (outcome (visit turns site w) answers).after

-- The tokens at which a site's faults stand: its own, or of a site of none the next one; of the end
-- of an expression those of the expression too. They are counted from the first, and up to the one
-- behind the last.
abbrev pub spoken_from : Item → Walk → ℕ
spoken_from (item.ValueEnds way expression) w = begin_of w
spoken_from other w = w.at

abbrev pub spoken_till : Item → Walk → ℕ
spoken_till site w = w.at + max 1 (item_length site)

-- the name that a site uses, if it does
abbrev pub used_name : Item → List ScopedName
used_name (item.Uses way name) = name ∷ []
used_name other = []

-- the names that these sites use, in order
abbrev pub used_names : List Item → List ScopedName
used_names sites = flat_map used_name sites

-- In these scopes no rule of tokens refuses the tokens. They are the spelling of a tree, which
-- stands where it may, and at none of whose sites is a fault; and what all these sites come to is
-- the verdict.
pub record IsSound (turns : ℕ) (answers : Key → Option Answer) (scopes : List Scope)
    (tokens : List Token) (verdict : Verdict) : Type 0 where
  pub tree : Tree
  pub rules : token_faults tokens ≡ []
  pub opening : opening_faults tokens scopes ≡ []
  pub spelled : lexemes tokens ≡ spell tree
  pub placed : is_misplaced tree scopes ≡ false
  pub named : site_faults turns answers (items (unit_parts tree)) (first_walk scopes) ≡ []
  pub is :
      verdict
      ≡ sound tokens scopes tree
      (walked turns answers (items (unit_parts tree)) (first_walk scopes))

-- No rule refuses the pragma that the tokens are, and nothing is wrong with what it says; and that
-- is what it adds.
pub record IsSpoken (turns : ℕ) (answers : Key → Option Answer) (tokens : List Token)
    (inside : Bool) (verdict : Verdict) : Type 0 where
  pub pragma : Pragma
  pub outside : inside ≡ false
  pub formed : pragma_of tokens ≡ Some pragma
  pub sound : (outcome (said turns (scopes_in (answers Cursor)) pragma) answers).faults ≡ []
  pub is :
      let s = outcome (said turns (scopes_in (answers Cursor)) pragma) answers in
      verdict
      ≡ record {
        fault = None;
        writes = record { additions = s.additions; step = s.step };
        row = None;
      }
