-- What is asked for a name and of what it denotes, and behind typedefs.
use Rattle.std.proofs.Common.{◌≡◌, ◌⊎◌, ℕ, zero, suc, ◌+◌, ◌≤◌, List, [], ◌∷◌, ◌++◌, map, Option, Some, None, Result, Ok, Err, refl, sym, inl, inr, subst, arith, length-append}
use Rattle.std.specs.Prelude.{◌↔◌, Contains}
use Rattle.std.proofs.lemmas.List.Elements.{All-contains}
use Rattle.idl_asked.proofs.FactLaws.{enough, places, seen-grounded}
use Rattle.idl_asked.proofs.NameLaws.{denoted-asks}
use Rattle.idl_asked.specs.Names.{AsksName}
use Rattle.idl_asked.specs.Units.{AsksBehind, Further, Next}
use Rattle.idl_check_laws.proofs.IdlCheck.TypeLemmas.{behind-same}
use Rattle.idl_check_laws.specs.idl_check.told.Types.{aliased, behind_typedefs, path_in}
use Rattle.idl_entity.specs.declared.entity.Entity.{Entity}
use Rattle.idl_entity.specs.idl_tree.declared.name.ScopedName.{ScopedName}
use Rattle.idl_env.proofs.Membership.{Contains-IsIn, IsIn, IsIn-Contains, IsIn-left, IsIn-right, IsIn-split}
use Rattle.idl_env.specs.Facts.{UnitFacts, answers, entity_in, entity_key}
use Rattle.idl_env.specs.SameKey.{same_key}
use Rattle.idl_env.specs.Turns.{HasTurnsFor, declared_among, declared_named}
use Rattle.idl_env.specs.declared.additions.addition.Addition.{Addition}
use Rattle.idl_env.specs.declared.answering.answer.Answer.{Answer}
use Rattle.idl_env.specs.declared.answering.answer.Scope.{Scope}
use Rattle.idl_env.specs.declared.keys.key.Key.{Key}
use Rattle.idl_env.specs.keys.Digested.{key_equiv}
use Rattle.idl_env.specs.keys.Key.{key_eq}
use Rattle.idl_memo.proofs.QueryLaws.{IsLogOf-run, asked-and_then}
use Rattle.idl_memo.specs.Query.{Ask, Done, and_then, asked, outcome, run}
use Rattle.idl_scope.proofs.FactsLaws.{asked-under}
use Rattle.idl_scope.proofs.LookupLaws.DenotesOnce.{denotes_once}
use Rattle.idl_scope.proofs.LookupLaws.LookupLaws.{denotes, seen-declared}
use Rattle.idl_scope.specs.Lookup.{Lookup, by_result, denoted, under}
use Rattle.idl_scope.specs.Meaning.{Denotes, entity_found, seen}
use Rattle.idl_scope.specs.declared.fault.NameFault.{NameFault}
use Rattle.idl_scope.specs.declared.found.Found.{Found}

ok_same : {A B : Type 0} {x y : A} → ◌≡◌ {A = Result A B} (Ok x) (Ok y) → x ≡ y
ok_same h = cc

err_ok : {A B : Type 0} {x : B} {y : A} → ◌≡◌ {A = Result A B} (Err x) (Ok y) → ⊥
err_ok h = cc

-- what is asked for a name in these scopes, and of what it denotes
abbrev pub NameAsks : (Key → Option Answer) → List Scope → ScopedName → (Entity → Key → Type 0) → Key → Type 0
NameAsks bank cursor name Of k = ((part : ℕ) × AsksName bank cursor name part k) ⊎ ((e : Entity) × Denotes bank cursor name (Ok e) × Of e k)

-- a query that looks a name up under what a unit's earlier tokens add, and then asks of what it denotes
module _ (facts : List UnitFacts) (own : List Addition) (turns : ℕ) (h : HasTurnsFor facts own turns) (cursor : List Scope) (name : ScopedName)
    (q : Lookup (Result Found NameFault)) (asks : asked q (answers facts) ≡ asked (denoted turns cursor name) (seen own facts)) (is : outcome q (answers facts) ≡ outcome (denoted turns cursor name) (seen own facts)) where
  pub q-asks : (k : Key) → IsIn k (asked q (answers facts)) ↔ ((part : ℕ) × AsksName (seen own facts) cursor name part k)
  q-asks k =
      let all = denoted-asks (places facts own) (seen own facts) (seen-grounded facts own) turns (enough facts own turns h) cursor name k in
      (λ i. all.0 (subst (IsIn k) asks i), λ a. subst (IsIn k) (sym asks) (all.1 a))

  q-denotes : Denotes (seen own facts) cursor name (entity_found (outcome q (answers facts)))
  q-denotes = subst (λ r. Denotes (seen own facts) cursor name (entity_found r)) (sym is) (denotes facts own turns h cursor name)

  module _ {R : Type 0} (Of : Entity → Key → Type 0) (ok : Found → Lookup R) (err : NameFault → Lookup R)
      (there : (found : Found) (k : Key) → IsIn k (asked (ok found) (answers facts)) ↔ Of found.entity k) (none : (fault : NameFault) (k : Key) → IsIn k (asked (err fault) (answers facts)) → ⊥) where
    by_found : (k : Key) (r : Result Found NameFault) → outcome q (answers facts) ≡ r → IsIn k (asked (by_result r ok err) (answers facts)) → NameAsks (seen own facts) cursor name Of k
    by_found k (Ok found) same i = inr (found.entity, subst (λ r. Denotes (seen own facts) cursor name (entity_found r)) same q-denotes, (there found k).0 i)
    by_found k (Err fault) same i = absurd (none fault k i)

    of_found : (k : Key) (e : Entity) → Of e k → (r : Result Found NameFault) → entity_found r ≡ Ok e → IsIn k (asked (by_result r ok err) (answers facts))
    of_found k e a (Ok found) same = (there found k).1 (subst (λ x. Of x k) (sym (ok_same same)) a)
    of_found k e a (Err fault) same = absurd (err_ok same)

    pub then-asks : (k : Key) → IsIn k (asked (and_then q (λ r. by_result r ok err)) (answers facts)) ↔ NameAsks (seen own facts) cursor name Of k
    then-asks k = (
      λ i. split (subst (IsIn k) (asked-and_then q (λ r. by_result r ok err) (answers facts)) i),
      λ a. subst (IsIn k) (sym (asked-and_then q (λ r. by_result r ok err) (answers facts))) (back a),
    )
      where
        split : IsIn k (asked q (answers facts) ++ asked (by_result (outcome q (answers facts)) ok err) (answers facts)) → NameAsks (seen own facts) cursor name Of k
        split i = elim (IsIn-split k (asked q (answers facts)) (asked (by_result (outcome q (answers facts)) ok err) (answers facts)) i) [
          | inl j ↦ inl ((q-asks k).0 j)
          | inr j ↦ by_found k (outcome q (answers facts)) refl j
        ]

        back : NameAsks (seen own facts) cursor name Of k → IsIn k (asked q (answers facts) ++ asked (by_result (outcome q (answers facts)) ok err) (answers facts))
        back (inl a) = IsIn-left k (asked q (answers facts)) (asked (by_result (outcome q (answers facts)) ok err) (answers facts)) ((q-asks k).1 a)
        back (inr a) =
            IsIn-right k (asked q (answers facts)) (asked (by_result (outcome q (answers facts)) ok err) (answers facts))
            (of_found k a.0 a.2 (outcome q (answers facts)) (denotes_once (seen own facts) cursor name (entity_found (outcome q (answers facts))) (Ok a.0) q-denotes a.1))

-- ---- two queries that log the same ask the same

module _ {A : Type 0} (bank : Key → Option Answer) (q r : Lookup A) where
  -- the entry of a key
  entry_of : (log : List (Key × Option Answer)) (k : Key) → IsIn k (map (λ e. e.0) log) → (e : Key × Option Answer) × IsIn e log × (e.0 ≡ k)
  entry_of [] k i = absurd i
  entry_of (e ∷ log) k (inl same) = (e, inl refl, same)
  entry_of (e ∷ log) k (inr i) = let there = entry_of log k i in (there.0, inr there.1, there.2)

  pub same-asks : run key_eq q bank [] ≡ run key_eq r bank [] → (k : Key) → IsIn k (asked q bank) → IsIn k (asked r bank)
  same-asks same k i =
      let log = (run key_eq r bank []).1 in
      let whole : Contains (map (λ e. e.0) (run key_eq q bank []).1) k =
      All-contains (Contains (map (λ e. e.0) (run key_eq q bank []).1)) (asked q bank) k (IsLogOf-run key_eq key_equiv.refl same_key q bank).whole (Contains-IsIn k (asked q bank) i) in
      let noted : IsIn k (map (λ e. e.0) log) = subst (λ (p : A × List (Key × Option Answer)). IsIn k (map (λ e. e.0) p.1)) same (IsIn-Contains k (map (λ e. e.0) (run key_eq q bank []).1) whole) in
      let there = entry_of log k noted in
      let asked_there : Contains (asked r bank) there.0.0 =
      All-contains (λ e. Contains (asked r bank) e.0) log there.0 (IsLogOf-run key_eq key_equiv.refl same_key r bank).within (Contains-IsIn there.0 log there.1) in
      subst (λ j. IsIn j (asked r bank)) there.2 (IsIn-Contains there.0.0 (asked r bank) asked_there)

-- ---- behind typedefs

abbrev typedef_by : ℕ → Entity → Entity → Option Entity → Lookup Entity
typedef_by turns name e o = elim o [ None ↦ Done e | Some f ↦ behind_typedefs turns name f ]

abbrev next_by : ℕ → Entity → Entity → Option (List (List ℕ)) → Lookup Entity
next_by turns name e o = elim o [ None ↦ Done e | Some path ↦ Ask (entity_key path) (λ there. elim (entity_in there) [ None ↦ Done e | Some f ↦ behind_typedefs turns name f ]) ]

module _ (bank : Key → Option Answer) (name : Entity) where
  behind-sound : (turns : ℕ) (e : Entity) (k : Key) → IsIn k (asked (behind_typedefs turns name e) bank) → AsksBehind bank e k
  behind-sound zero e k i = absurd i
  behind-sound (suc turns) e k i = by_path (λ f. behind-sound turns f k) (path_in (aliased e)) refl i
    where
      by_there : ((f : Entity) → IsIn k (asked (behind_typedefs turns name f) bank) → AsksBehind bank f k) → (p : List (List ℕ)) → path_in (aliased e) ≡ Some p → (o : Option Entity) → entity_in (bank (entity_key p)) ≡ o
          → IsIn k (asked (typedef_by turns name e o) bank) → AsksBehind bank e k
      by_there more p is None there j = absurd j
      by_there more p is (Some f) there j = Further p f is there (more f j)

      by_path : ((f : Entity) → IsIn k (asked (behind_typedefs turns name f) bank) → AsksBehind bank f k) → (o : Option (List (List ℕ))) → path_in (aliased e) ≡ o → IsIn k (asked (next_by turns name e o) bank) → AsksBehind bank e k
      by_path more None is j = absurd j
      by_path more (Some p) is (inl same) = Next p is (sym same)
      by_path more (Some p) is (inr j) = by_there more p is (entity_in (bank (entity_key p))) refl j

  -- with some number of turns, and each greater one
  behind-deep : (e : Entity) (k : Key) → AsksBehind bank e k → (d : ℕ) × ((turns : ℕ) → d ≤ turns → IsIn k (asked (behind_typedefs turns name e) bank))
  behind-deep e k (Next p is same) = (1, go)
    where
      go : (turns : ℕ) → 1 ≤ turns → IsIn k (asked (behind_typedefs turns name e) bank)
      go zero le = absurd (omega (arith, le))
      go (suc turns) le = subst (λ o. IsIn k (asked (next_by turns name e o) bank)) (sym is) (inl (sym same))
  behind-deep e k (Further p f is there a) = let d = behind-deep f k a in (suc d.0, go d.0 d.1)
    where
      go : (d : ℕ) → ((turns : ℕ) → d ≤ turns → IsIn k (asked (behind_typedefs turns name f) bank)) → (turns : ℕ) → suc d ≤ turns → IsIn k (asked (behind_typedefs turns name e) bank)
      go d deep zero le = absurd (omega (arith, le))
      go d deep (suc turns) le =
          subst (λ o. IsIn k (asked (next_by turns name e o) bank)) (sym is)
          (inr (subst (λ o. IsIn k (asked (typedef_by turns name e o) bank)) (sym there) (deep turns (omega (arith, le)))))

module _ (facts : List UnitFacts) (own : List Addition) (turns : ℕ) (h : HasTurnsFor facts own turns) (e : Entity) (k : Key) where
  -- what is asked with more turns is asked with these
  enough-turns : (d : ℕ) → ((t : ℕ) → d ≤ t → IsIn k (asked (behind_typedefs t e e) (seen own facts))) → IsIn k (asked (under own (behind_typedefs (suc turns) e e)) (answers facts))
  enough-turns d deep =
      let l = length-append (declared_named facts) (declared_among own) in
      same-asks (answers facts) (under own (behind_typedefs (suc turns + d) e e)) (under own (behind_typedefs (suc turns) e e))
      (behind-same own (answers facts) e (declared_named facts ++ declared_among own) (seen-declared facts own) (suc turns + d) (suc turns) e [] (omega (arith, l, h)) (omega (arith, l, h))) k
      (subst (IsIn k) (sym (asked-under own (answers facts) (behind_typedefs (suc turns + d) e e))) (deep (suc turns + d) (omega arith)))

  pub behind-asks : IsIn k (asked (under own (behind_typedefs (suc turns) e e)) (answers facts)) ↔ AsksBehind (seen own facts) e k
  behind-asks = (
    λ i. behind-sound (seen own facts) e (suc turns) e k (subst (IsIn k) (asked-under own (answers facts) (behind_typedefs (suc turns) e e)) i),
    λ a. let deep = behind-deep (seen own facts) e e k a in enough-turns deep.0 deep.1,
  )
