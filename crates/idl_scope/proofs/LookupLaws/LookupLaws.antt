-- The laws of names, from what lookup comes to.
use Rattle.std.proofs.Common.{◌≡◌, ℕ, ◌+◌, ◌≤◌, Bool, true, false, cond, List, [], ◌++◌, length, Option, Some, Result, Ok, Err, length-append, subst, ap, ◌∙◌, arith, sym}
use Rattle.std.specs.Prelude.{◌≢◌, ◌↔◌, AllPairs, Contains, IfOk, MatchBool}
use Rattle.idl_lex.specs.kinds.Keywords.{folded}
use Rattle.idl_memo.specs.Query.{outcome, run}
use Rattle.idl_entity.specs.idl_tree.declared.name.ScopedName.{ScopedName}
use Rattle.idl_env.specs.Turns.{bases_among, bases_named, declared_among, declared_named, HasTurnsFor, turns_among, turns_for}
use Rattle.idl_env.specs.Facts.{UnitFacts, answers}
use Rattle.idl_env.specs.keys.Key.{key_eq}
use Rattle.idl_scope.specs.Lookup.{IfSettled, denoted, has, reach, reached, searched, under}
use Rattle.idl_scope.specs.Meaning.{Denotes, Has, Introduces, Reaches, Through, bases_at, entity_found, own_at, reached_by, seen}
use Rattle.idl_entity.specs.Path.{name_of, scope_of}
use Rattle.idl_env.specs.declared.additions.addition.Addition.{Addition}
use Rattle.idl_env.specs.declared.answering.answer.Answer.{Answer}
use Rattle.idl_env.specs.declared.answering.answer.Scope.{Scope}
use Rattle.idl_entity.specs.declared.entity.Entity.{Entity}
use Rattle.idl_scope.specs.declared.fault.NameFault.{NameFault}
use Rattle.idl_scope.specs.declared.fault.NameFault.TheVariants.{At, Memory}
use Rattle.idl_scope.specs.declared.found.Found.{Found}
use Rattle.idl_scope.specs.declared.found.Reach.{Reach}
use Rattle.idl_env.specs.declared.keys.key.Key.{Key}
use Rattle.idl_entity.specs.declared.kind.Kind.{Kind}
use Rattle.idl_env.proofs.Membership.{IsIn-left, IsIn-right, Contains-IsIn, IsIn-Contains, AllPairs-Distinct}
use Rattle.idl_scope.proofs.FactsLaws.{outcome-under}
use Rattle.idl_scope.proofs.LookupLaws.Introduced.{Decides, Introduces_in, in_Introduces}
use Rattle.idl_scope.proofs.LookupLaws.Meant.{has-Has, denoted-Denotes, denoted-Ok, reached-all}
use Rattle.idl_scope.proofs.LookupLaws.RunLemmas.{runs}
use Rattle.idl_scope.proofs.LookupLaws.TurnsLaws.{denoted-same, has-same, reached-same}
use Rattle.idl_scope.proofs.Worlds.{AreDeclared, AreGrounded, addition-grounded, answers-declared, answers-grounded, bases-among, over-grounded, own_at-home, own_at-name, own_place, places-among, wider-grounded}

-- a fact about a result, whatever it is
pub IfSettled-always : {A : Type 0} (r : Result A NameFault) (Fact : Result A NameFault → Type 0) → Fact r → IfSettled r Fact
IfSettled-always (Ok a) Fact h = h
IfSettled-always (Err Memory) Fact h = tt
IfSettled-always (Err (At code part)) Fact h = h

module _ (facts : List UnitFacts) (own : List Addition) where
  -- the bases that facts and additions name
  places : List (List (List ℕ))
  places = bases_named facts ++ bases_among own

  seen-grounded : AreGrounded places (seen own facts)
  unfolding places
  seen-grounded = over-grounded (λ e. e.bases) (bases_named facts ++ bases_among own) own (answers facts)
      (wider-grounded (λ e. e.bases) (bases_named facts) (bases_named facts ++ bases_among own) (λ c i. IsIn-left c (bases_named facts) (bases_among own) i) (answers facts) (answers-grounded facts))
      (λ a i. addition-grounded (λ e. e.bases) (bases_named facts ++ bases_among own) a (λ e is c j. IsIn-right c (bases_named facts) (bases_among own) (bases-among own a i e is c j)))

  -- what is declared stands under its own path, which is among these
  pub seen-declared : AreDeclared (declared_named facts ++ declared_among own) (seen own facts)
  seen-declared = over-grounded own_place (declared_named facts ++ declared_among own) own (answers facts)
      (wider-grounded own_place (declared_named facts) (declared_named facts ++ declared_among own) (λ c i. IsIn-left c (declared_named facts) (declared_among own) i) (answers facts) (answers-declared facts))
      (λ a i. addition-grounded own_place (declared_named facts ++ declared_among own) a (λ e is c j. IsIn-right c (declared_named facts) (declared_among own) (places-among own a i e is c j)))

  pub own_path : (n : List ℕ) (path : List (List ℕ)) (e : Entity) → own_at (seen own facts) n path ≡ Some e → (folded (name_of e.path) ≡ n) × (scope_of e.path ≡ path)
  own_path n path e h = (own_at-name places (seen own facts) seen-grounded n path e h, own_at-home places (seen own facts) seen-grounded n path e h)

  -- a name is introduced into the scopes that the rules tell, and into no others
  reaches_by : (b : Bool) (cursor : List Scope) (n : List ℕ) (k : ℕ) (first : Entity) → Decides (seen own facts) n (searched b cursor) k first
      → (r : Reach) → r ≡ cond b (record { certain = 0; further = 0 }) (reach cursor k first)
      → MatchBool b (reached_by (seen own facts) n cursor r ≡ []) ((s : Scope) → Contains (reached_by (seen own facts) n cursor r) s ↔ Introduces (seen own facts) cursor n s)
  reaches_by true cursor n k first d r e = ap (reached_by (seen own facts) n cursor) e
  reaches_by false cursor n k first d r e = λ s.
      let at_home = own_at-home places (seen own facts) seen-grounded n in
      rw e (
        λ c. in_Introduces (seen own facts) n at_home cursor k first d s (IsIn-Contains s (reached_by (seen own facts) n cursor (reach cursor k first)) c),
        λ i. Contains-IsIn s (reached_by (seen own facts) n cursor (reach cursor k first)) (Introduces_in (seen own facts) n at_home cursor k first d s i),
      )

  module _ (turns : ℕ) (h : HasTurnsFor facts own turns) where
    enough : length places ≤ turns
    unfolding places
    enough = let l = length-append (bases_named facts) (bases_among own) in omega (arith, l, h)

    pub has-all : (kind : Kind) (path : List (List ℕ)) (n : List ℕ) (e : Entity) → Contains (outcome (has turns kind path n) (seen own facts)) e ↔ Has (seen own facts) kind path n e
    has-all kind path n e =
        let all = (has-Has places (seen own facts) seen-grounded turns enough kind path n).0 e in
        (λ c. all.0 (IsIn-Contains e (outcome (has turns kind path n) (seen own facts)) c), λ r. Contains-IsIn e (outcome (has turns kind path n) (seen own facts)) (all.1 r))

    pub has-once : (kind : Kind) (path : List (List ℕ)) (n : List ℕ) → AllPairs (λ e f. e ≢ f) (outcome (has turns kind path n) (seen own facts))
    has-once kind path n = AllPairs-Distinct (outcome (has turns kind path n) (seen own facts)) (has-Has places (seen own facts) seen-grounded turns enough kind path n).1

    -- what is reached through the bases of what stands at a path
    pub through-all : (path : List (List ℕ)) (n : List ℕ) (e : Entity) → Contains (outcome (reached turns n (bases_at (seen own facts) path)) (seen own facts)) e ↔ Through (seen own facts) n (bases_at (seen own facts) path) e
    through-all path n e =
        let all = (reached-all places (seen own facts) seen-grounded turns enough n path).0 e in
        let found = outcome (reached turns n (bases_at (seen own facts) path)) (seen own facts) in
        (λ c. all.0 (IsIn-Contains e found c), λ r. Contains-IsIn e found (all.1 r))

    -- more turns give the same and log the same, and so they come to the same
    pub has-more : (more : ℕ) (kind : Kind) (path : List (List ℕ)) (n : List ℕ) (log : List (Key × Option Answer)) → runs own (answers facts) (has (turns + more) kind path n) log ≡ runs own (answers facts) (has turns kind path n) log
    has-more more kind path n log = has-same own (answers facts) places seen-grounded turns enough more kind path n log

    pub denoted-more : (more : ℕ) (cursor : List Scope) (name : ScopedName) (log : List (Key × Option Answer)) → runs own (answers facts) (denoted (turns + more) cursor name) log ≡ runs own (answers facts) (denoted turns cursor name) log
    denoted-more more cursor name log = denoted-same own (answers facts) places seen-grounded turns enough more cursor name log

    pub reached-more : (more : ℕ) (n : List ℕ) (path : List (List ℕ)) (log : List (Key × Option Answer)) → runs own (answers facts) (reached (turns + more) n (bases_at (seen own facts) path)) log ≡ runs own (answers facts) (reached turns n (bases_at (seen own facts) path)) log
    reached-more more n path log = reached-same own (answers facts) places seen-grounded turns enough more n path log

    -- what a lookup gives and logs under each number of turns from some number on, it gives and logs under this one
    module _ (least : ℕ) (log after : List (Key × Option Answer)) where
      pub has-from : (kind : Kind) (path : List (List ℕ)) (n : List ℕ) (es : List Entity) → ((t : ℕ) → least ≤ t → (es, after) ≡ runs own (answers facts) (has t kind path n) log) → (es, after) ≡ runs own (answers facts) (has turns kind path n) log
      has-from kind path n es gives = gives (turns + least) (omega arith) ∙ has-more least kind path n log

      pub denoted-from : (cursor : List Scope) (name : ScopedName) (r : Result Found NameFault) → ((t : ℕ) → least ≤ t → (r, after) ≡ runs own (answers facts) (denoted t cursor name) log) → (r, after) ≡ runs own (answers facts) (denoted turns cursor name) log
      denoted-from cursor name r gives = gives (turns + least) (omega arith) ∙ denoted-more least cursor name log

    pub denotes : (cursor : List Scope) (name : ScopedName) → Denotes (seen own facts) cursor name (entity_found (outcome (denoted turns cursor name) (seen own facts)))
    denotes cursor name = denoted-Denotes places (seen own facts) seen-grounded turns enough cursor name

    pub reaches : (cursor : List Scope) (name : ScopedName) (found : Found) → outcome (denoted turns cursor name) (seen own facts) ≡ Ok found → Reaches (seen own facts) cursor name found.reach
    reaches cursor name found h =
        let first = denoted-Ok places (seen own facts) seen-grounded turns enough cursor name found h in
        reaches_by name.is_global cursor (folded name.first) first.1 first.0 first.2 found.reach first.3

  -- ---- of runs under a unit's own additions, in which however many turns make no difference from some number on

  Runs : ℕ → List Scope → ScopedName → List (Key × Option Answer) → List (Key × Option Answer) → Result Found NameFault → Type 0
  Runs least cursor name log after r = (turns : ℕ) → least ≤ turns → (r, after) ≡ run key_eq (under own (denoted turns cursor name)) (answers facts) log

  -- what is left is what is found with turns for all bases
  enough_turns : (least : ℕ) (cursor : List Scope) (name : ScopedName) (log after : List (Key × Option Answer)) (r : Result Found NameFault) → Runs least cursor name log after r
      → (turns : ℕ) × HasTurnsFor facts own turns × (r ≡ outcome (denoted turns cursor name) (seen own facts))
  unfolding Runs
  enough_turns least cursor name log after r runs =
      let named = turns_for facts + turns_among own in
      let same = runs (least + named) (omega arith) in
      (least + named, omega arith, ap (λ (p : Result Found NameFault × List (Key × Option Answer)). p.0) same ∙ outcome-under own (answers facts) (denoted (least + named) cursor name))

  pub denotes-run : (least : ℕ) (cursor : List Scope) (name : ScopedName) (log after : List (Key × Option Answer)) (r : Result Found NameFault)
      → ((turns : ℕ) → least ≤ turns → (r, after) ≡ run key_eq (under own (denoted turns cursor name)) (answers facts) log) → Denotes (seen own facts) cursor name (entity_found r)
  unfolding Runs
  denotes-run least cursor name log after r runs =
      let known = enough_turns least cursor name log after r runs in
      let Q : Result Found NameFault → Type 0 = λ x. Denotes (seen own facts) cursor name (entity_found x) in
      subst Q (sym known.2) (denotes known.0 known.1 cursor name)

  pub reaches-run : (least : ℕ) (cursor : List Scope) (name : ScopedName) (log after : List (Key × Option Answer)) (r : Result Found NameFault)
      → ((turns : ℕ) → least ≤ turns → (r, after) ≡ run key_eq (under own (denoted turns cursor name)) (answers facts) log) → IfOk r (λ found. Reaches (seen own facts) cursor name found.reach)
  unfolding Runs
  reaches-run least cursor name log after (Ok found) runs =
      let known = enough_turns least cursor name log after (Ok found) runs in
      reaches known.0 known.1 cursor name found (sym known.2)
  reaches-run least cursor name log after (Err fault) runs = tt
