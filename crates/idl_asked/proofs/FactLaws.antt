-- The table of names, ids and entries, over facts with turns enough.
use Rattle.std.proofs.Common.{ℕ, ◌≤◌, List, ◌++◌, length, Option, length-append, arith}
use Rattle.std.specs.Prelude.{◌↔◌, Contains}
use Rattle.idl_asked.proofs.IdLaws.{entry-asks, known-asks}
use Rattle.idl_asked.proofs.NameLaws.{denoted-asks, has-asks}
use Rattle.idl_asked.proofs.ThroughLaws.{reached-asks}
use Rattle.idl_asked.specs.Entries.{AsksEntry}
use Rattle.idl_asked.specs.Ids.{AsksId}
use Rattle.idl_asked.specs.Names.{AsksIn, AsksName, AsksThrough}
use Rattle.idl_entity.specs.declared.kind.Kind.{Kind}
use Rattle.idl_entity.specs.idl_tree.declared.name.ScopedName.{ScopedName}
use Rattle.idl_env.proofs.Membership.{Contains-IsIn, IsIn, IsIn-Contains, IsIn-left, IsIn-right}
use Rattle.idl_env.specs.Facts.{UnitFacts, answers}
use Rattle.idl_env.specs.Turns.{HasTurnsFor, bases_among, bases_named}
use Rattle.idl_env.specs.declared.additions.addition.Addition.{Addition}
use Rattle.idl_env.specs.declared.answering.answer.Answer.{Answer}
use Rattle.idl_env.specs.declared.answering.answer.Scope.{Scope}
use Rattle.idl_env.specs.declared.keys.key.Key.{Key}
use Rattle.idl_memo.specs.Query.{asked}
use Rattle.idl_repo.specs.Entry.{entry}
use Rattle.idl_scope.proofs.Worlds.{AreGrounded, addition-grounded, answers-grounded, bases-among, over-grounded, wider-grounded}
use Rattle.idl_scope.specs.Known.{known}
use Rattle.idl_scope.specs.Lookup.{denoted, has, reached}
use Rattle.idl_scope.specs.Meaning.{bases_at, seen}

-- membership by places for that by recursion
pub among : {K : Type 0} (ks : List K) (k : K) {Asks : Type 0} → IsIn k ks ↔ Asks → Contains ks k ↔ Asks
among ks k all = (λ c. all.0 (IsIn-Contains k ks c), λ a. Contains-IsIn k ks (all.1 a))

-- the bases that facts and additions name
abbrev pub places : List UnitFacts → List Addition → List (List (List ℕ))
places facts own = bases_named facts ++ bases_among own

pub seen-grounded : (facts : List UnitFacts) (own : List Addition) → AreGrounded (places facts own) (seen own facts)
seen-grounded facts own = over-grounded (λ e. e.bases) (places facts own) own (answers facts)
    (wider-grounded (λ e. e.bases) (bases_named facts) (places facts own) (λ c i. IsIn-left c (bases_named facts) (bases_among own) i) (answers facts) (answers-grounded facts))
    (λ a i. addition-grounded (λ e. e.bases) (places facts own) a (λ e is c j. IsIn-right c (bases_named facts) (bases_among own) (bases-among own a i e is c j)))

pub enough : (facts : List UnitFacts) (own : List Addition) (turns : ℕ) → HasTurnsFor facts own turns → length (places facts own) ≤ turns
enough facts own turns h = let l = length-append (bases_named facts) (bases_among own) in omega (arith, l, h)

pub through-asked : (facts : List UnitFacts) (own : List Addition) (turns : ℕ) → HasTurnsFor facts own turns → (path : List (List ℕ)) (n : List ℕ) (k : Key)
    → Contains (asked (reached turns n (bases_at (seen own facts) path)) (seen own facts)) k ↔ AsksThrough (seen own facts) n (bases_at (seen own facts) path) k
through-asked facts own turns h path n k = among (asked (reached turns n (bases_at (seen own facts) path)) (seen own facts)) k (reached-asks (places facts own) (seen own facts) (seen-grounded facts own) turns (enough facts own turns h) n path k)

pub scope-asked : (facts : List UnitFacts) (own : List Addition) (turns : ℕ) → HasTurnsFor facts own turns → (kind : Kind) (path : List (List ℕ)) (n : List ℕ) (k : Key)
    → Contains (asked (has turns kind path n) (seen own facts)) k ↔ AsksIn (seen own facts) kind path n k
scope-asked facts own turns h kind path n k = among (asked (has turns kind path n) (seen own facts)) k (has-asks (places facts own) (seen own facts) (seen-grounded facts own) turns (enough facts own turns h) kind path n k)

pub name-asked : (facts : List UnitFacts) (own : List Addition) (turns : ℕ) → HasTurnsFor facts own turns → (cursor : List Scope) (name : ScopedName) (k : Key)
    → Contains (asked (denoted turns cursor name) (seen own facts)) k ↔ ((part : ℕ) × AsksName (seen own facts) cursor name part k)
name-asked facts own turns h cursor name k = among (asked (denoted turns cursor name) (seen own facts)) k (denoted-asks (places facts own) (seen own facts) (seen-grounded facts own) turns (enough facts own turns h) cursor name k)

pub id-asked : (path : List (List ℕ)) (bank : Key → Option Answer) (k : Key) → Contains (asked (known path) bank) k ↔ AsksId bank path k
id-asked path bank k = among (asked (known path) bank) k (known-asks bank path k)

pub entry-asked : (path : List (List ℕ)) (bank : Key → Option Answer) (k : Key) → Contains (asked (entry path) bank) k ↔ AsksEntry bank path k
entry-asked path bank k = among (asked (entry path) bank) k (entry-asks bank path k)
