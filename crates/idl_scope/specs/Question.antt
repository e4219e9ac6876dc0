-- Questions about names: over which answers they are asked, and how one goes on by what came of it.
use Rattle.std.specs.Prelude.{List, Option, Result, Ok, Err}
use Rattle.idl_memo.specs.Query.{Query, Done, Ask, Tell}
use Rattle.idl_env.specs.Facts.{over}
use Rattle.idl_env.specs.declared.additions.addition.Addition.{Addition}
use Rattle.idl_env.specs.declared.answering.answer.Answer.{Answer}
use Rattle.idl_env.specs.declared.keys.key.Key.{Key}

-- questions about names
abbrev pub Lookup : Type 0 → Type 0
Lookup A = Query Key (Option Answer) (Unit {0}) A

-- the query to which each answer comes with what these additions change in it
abbrev pub under : {A : Type 0} → List Addition → Lookup A → Lookup A
under additions (Done a) = Done a
under additions (Ask k next) = Ask k (λ v. under additions (next (over additions k v)))
under additions (Tell x query) = Tell x (under additions query)

-- one way with a value, another with an error
abbrev pub by_result : {A B C : Type 0} → Result A B → (A → C) → (B → C) → C
by_result (Ok a) f g = f a
by_result (Err b) f g = g b
