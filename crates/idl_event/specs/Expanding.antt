-- The expansion of a root as a query, and where one comes to with it.
use Rattle.std.specs.Prelude.{List, [], ◌∷◌, Option}
use Rattle.std.specs.Option.{option_map}
use Rattle.idl_memo.specs.Progress.{Progress, after_item, progress_after}
use Rattle.idl_memo.specs.Query.{Query, outcome}
use Rattle.idl_event.specs.Apart.{emitted_in}
use Rattle.idl_event.specs.Items.{rules}
use Rattle.idl_event.specs.Key.{key_eq}
use Rattle.idl_event.specs.declared.told.allowance.Allowance.{Allowance}
use Rattle.idl_event.specs.declared.told.event.Event.{Event}
use Rattle.idl_event.specs.declared.told.event.Item.{Item}
use Rattle.idl_event.specs.declared.told.event.Item.TheVariants.{Kept}
use Rattle.idl_fault.specs.declared.file_name.FileName.{FileName}
use Rattle.idl_event.specs.declared.asked.key.RootAnswer.{RootAnswer}
use Rattle.idl_event.specs.declared.asked.key.RootKey.{RootKey}
use Rattle.idl_lex.specs.declared.tokens.token.PlacedToken.{PlacedToken}

-- what a root asks and tells, and what comes of it
abbrev pub Expanding : Type 0 → Type 0
Expanding A = Query RootKey (Option RootAnswer) Item A

-- how far a root has come
abbrev pub Reached : Type 0
Reached = Progress RootKey (Option RootAnswer) Event Allowance

-- where it comes to with what is asked and told
abbrev pub reached : {A : Type 0} → (RootKey → Option RootAnswer) → Expanding A → Reached → Reached
reached bank query p = progress_after rules key_eq bank query p

-- where it comes to with these tokens of a file's text, one after the other, each at its line
abbrev pub after_text : FileName → List PlacedToken → Reached → Reached
after_text file [] p = p
after_text file (t ∷ ts) p = after_text file ts (after_item rules (Kept (emitted_in file t)) p)

-- where it ends: what was reached, and what came of it unless a limit was passed
abbrev pub arrived : {A : Type 0} → A → Reached → Reached × Option A
arrived a p = (p, option_map (λ _. a) p.left)

-- where a query comes to
abbrev pub arrival : {A : Type 0} → (RootKey → Option RootAnswer) → Expanding A → Reached
    → Reached × Option A
arrival bank query p = arrived (outcome query bank) (reached bank query p)
