-- Facts over a bank alone, and the same facts where other facts stand beneath.
use Rattle.std.specs.Prelude.{ℕ, zero, suc, List, [], ◌∷◌, ◌++◌, Option, None, Some}
use Rattle.idl_env.specs.Facts.{UnitFacts, World, after, after_all, more_inside}
use Rattle.idl_env.specs.declared.additions.addition.Step.{Step}
use Rattle.idl_env.specs.declared.additions.addition.Step.TheVariants.{Opens, OpensNameless, Closes, Enters, Leaves}
use Rattle.idl_env.specs.declared.answering.answer.Answer.{Answer}
use Rattle.idl_env.specs.declared.keys.key.Key.{Key}

-- the world of a bank, in which no scope was opened and no file entered yet
abbrev pub start : (Key → Option Answer) → World
start bank = record {
  answers = bank;
  inside = [] ∷ [];
  before = record { opened = []; entered = [] };
}

-- the answers that facts leave over a bank
abbrev pub answers_over : List UnitFacts → (Key → Option Answer) → Key → Option Answer
answers_over facts bank = (after_all (start bank) facts).answers

-- the operations and attributes of open scopes, on those of the scopes beneath: the last of them go
-- on with those of the first scope beneath
abbrev pub inside_onto : List (List (List (List ℕ))) → List (List (List (List ℕ)))
    → List (List (List (List ℕ)))
inside_onto [] beneath = beneath
inside_onto (own ∷ []) beneath = more_inside beneath own
inside_onto (own ∷ next ∷ outer) beneath = own ∷ inside_onto (next ∷ outer) beneath

-- a world on another: what stands beside its answers goes on with what stands beneath
abbrev pub onto : World → World → World
onto w beneath = record {
  answers = w.answers;
  inside = inside_onto w.inside beneath.inside;
  before = record {
    opened = w.before.opened ++ beneath.before.opened;
    entered = w.before.entered ++ beneath.before.entered;
  };
}

-- there is one, and there are two
abbrev pub IsThere : {X : Type 0} → List X → Type 0
IsThere [] = ⊥
IsThere (x ∷ xs) = Unit {0}

abbrev pub AreTwo : {X : Type 0} → List X → Type 0
AreTwo [] = ⊥
AreTwo (x ∷ xs) = IsThere xs

-- a step closes no scope, and leaves no file, that was there at the start
abbrev pub StaysWithin : World → Step → Type 0
StaysWithin w Closes = AreTwo w.inside × IsThere w.before.opened
StaysWithin w Leaves = IsThere w.before.entered
StaysWithin w other = Unit {0}

-- none of the steps of facts does
abbrev pub StayWithin : World → List UnitFacts → Type 0
StayWithin w [] = Unit {0}
StayWithin w (f ∷ facts) = StaysWithin w f.step × StayWithin (after w f) facts

-- how many scopes and files are there that were not at the start
pub record Depth : Type 0 where
  pub scopes : ℕ
  pub files : ℕ

-- how many after a step, or nothing where it closes or leaves one that was there at the start
abbrev pub deepened : Depth → Step → Option Depth
deepened d Closes =
    elim d.scopes [ zero ↦ None | suc n ↦ Some (record d { scopes = n }) ]
deepened d Leaves = elim d.files [ zero ↦ None | suc n ↦ Some (record d { files = n }) ]
deepened d (Opens path kind) = Some (record d { scopes = suc d.scopes })
deepened d (OpensNameless kind) = Some (record d { scopes = suc d.scopes })
deepened d Enters = Some (record d { files = suc d.files })
deepened d other = Some d

-- facts close and leave nothing that was there at the start, where so many have come since
abbrev pub AreBalanced : Depth → List UnitFacts → Type 0
AreBalanced d [] = Unit {0}
AreBalanced d (f ∷ facts) =
    elim (deepened d f.step) [ None ↦ ⊥ | Some next ↦ AreBalanced next facts ]
