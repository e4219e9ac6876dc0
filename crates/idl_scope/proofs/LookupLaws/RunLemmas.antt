-- Runs of lookups over a bank, under what a unit's earlier tokens add.
use Rattle.std.proofs.Common.{◌≡◌, ℕ, zero, suc, ◌+◌, true, false, cond, List, [], ◌∷◌, ◌++◌, Option, Some, None, Result, Err, refl, sym, ap, ◌∙◌}
use Rattle.std.specs.Prelude.{option_to_list, slice_get}
use Rattle.idl_memo.specs.Query.{Done, Ask, Tell, and_then, run}
use Rattle.idl_memo.proofs.QueryLaws.{run-and_then_at}
use Rattle.idl_env.specs.Facts.{joined, over}
use Rattle.idl_env.specs.keys.Key.{key_eq}
use Rattle.idl_entity.specs.Kind.{is_scope}
use Rattle.idl_scope.specs.Lookup.{Lookup, by_result, decided, denoted, entered, first_part, found_as, further, has, is_nothing, judged, part_of, placed, reach_of, searched, under, walk}
use Rattle.idl_lex.specs.kinds.Keywords.{folded}
use Rattle.idl_entity.specs.idl_tree.declared.name.ScopedName.{ScopedName}
use Rattle.idl_scope.specs.declared.found.Found.{Found}
use Rattle.idl_env.specs.declared.additions.addition.Addition.{Addition}
use Rattle.idl_env.specs.declared.answering.answer.Answer.{Answer}
use Rattle.idl_env.specs.declared.answering.answer.Scope.{Scope}
use Rattle.idl_entity.specs.declared.entity.Entity.{Entity}
use Rattle.idl_scope.specs.declared.fault.NameCode.TheVariants.{NoScope}
use Rattle.idl_scope.specs.declared.fault.NameFault.{NameFault}
use Rattle.idl_scope.specs.declared.fault.NameFault.TheVariants.{At}
use Rattle.idl_env.specs.declared.keys.key.Key.{Key}

-- one query after another, under additions
pub under-and_then : {A B : Type 0} (own : List Addition) (q : Lookup A) (f : A → Lookup B) → under own (and_then q f) ≡ and_then (under own q) (λ a. under own (f a))
under-and_then own (Done a) f = refl
under-and_then own (Ask k next) f = λ i. Ask k (λ v. under-and_then own (next (over own k v)) f i)
under-and_then own (Tell x q) f = ap (Tell x) (under-and_then own q f)

-- and under none
pub under-nothing : {A : Type 0} (q : Lookup A) → under [] q ≡ q
under-nothing (Done a) = refl
under-nothing (Ask k next) = λ i. Ask k (λ v. under-nothing (next v) i)
under-nothing (Tell x q) = ap (Tell x) (under-nothing q)

module _ (own : List Addition) (bank : Key → Option Answer) where
  -- a lookup, run
  abbrev pub runs : {A : Type 0} → Lookup A → List (Key × Option Answer) → A × List (Key × Option Answer)
  runs q log = run key_eq (under own q) bank log

  -- what is answered at a key
  abbrev pub seen_at : Key → Option Answer
  seen_at k = over own k (bank k)

  pub runs-and_then : {A B : Type 0} (q : Lookup A) (f : A → Lookup B) (log : List (Key × Option Answer)) (a : A) (after : List (Key × Option Answer)) → (a, after) ≡ runs q log → runs (and_then q f) log ≡ runs (f a) after
  runs-and_then q f log a after h = ap (λ r. run key_eq r bank log) (under-and_then own q f) ∙ run-and_then_at key_eq (under own q) (λ a. under own (f a)) bank log a after h

  -- a walk at the end of its queue is done
  pub walk_end : (turns : ℕ) (n : List ℕ) (at : ℕ) (queue : List (List (List ℕ))) (found : List Entity) (log : List (Key × Option Answer)) → slice_get queue at ≡ None → runs (walk turns n at queue found) log ≡ (found, log)
  unfolding walk
  walk_end zero n at queue found log h = refl
  walk_end (suc turns) n at queue found log h = ap (λ o. runs (elim o [ None ↦ Done found | Some b ↦ and_then (entered n b) (λ r. walk turns n (at + 1) (joined queue r.1) (found ++ option_to_list r.0)) ]) log) h

  -- one more base
  pub walk_on : (turns : ℕ) (n : List ℕ) (at : ℕ) (queue : List (List (List ℕ))) (found : List Entity) (log : List (Key × Option Answer)) (b : List (List ℕ)) (r : Option Entity × List (List (List ℕ))) (after : List (Key × Option Answer))
      → slice_get queue at ≡ Some b → (r, after) ≡ runs (entered n b) log
      → runs (walk (suc turns) n at queue found) log ≡ runs (walk turns n (at + 1) (joined queue r.1) (found ++ option_to_list r.0)) after
  unfolding walk
  walk_on turns n at queue found log b r after h gives =
      ap (λ o. runs (elim o [ None ↦ Done found | Some b ↦ and_then (entered n b) (λ r. walk turns n (at + 1) (joined queue r.1) (found ++ option_to_list r.0)) ]) log) h
      ∙ runs-and_then (entered n b) (λ r. walk turns n (at + 1) (joined queue r.1) (found ++ option_to_list r.0)) log r after gives

  -- the innermost scope that has the name
  pub decided_found : (turns inside : ℕ) (s : Scope) (scopes : List Scope) (n : List ℕ) (log : List (Key × Option Answer)) (found : List Entity) (after : List (Key × Option Answer))
      → (found, after) ≡ runs (has turns s.kind s.path n) log → is_nothing found ≡ false → runs (decided turns inside (s ∷ scopes) n) log ≡ ((found, inside), after)
  decided_found turns inside s scopes n log found after h some =
      runs-and_then (has turns s.kind s.path n) (λ found. cond (is_nothing found) (decided turns (inside + 1) scopes n) (Done (found, inside))) log found after h
      ∙ ap (λ b. runs (cond b (decided turns (inside + 1) scopes n) (Done (found, inside))) after) some

  -- and one that has not
  pub decided_on : (turns inside : ℕ) (s : Scope) (scopes : List Scope) (n : List ℕ) (log : List (Key × Option Answer)) (found : List Entity) (after : List (Key × Option Answer))
      → (found, after) ≡ runs (has turns s.kind s.path n) log → is_nothing found ≡ true → runs (decided turns inside (s ∷ scopes) n) log ≡ runs (decided turns (inside + 1) scopes n) after
  decided_on turns inside s scopes n log found after h none =
      runs-and_then (has turns s.kind s.path n) (λ found. cond (is_nothing found) (decided turns (inside + 1) scopes n) (Done (found, inside))) log found after h
      ∙ ap (λ b. runs (cond b (decided turns (inside + 1) scopes n) (Done (found, inside))) after) none

  -- of one scope alone it is what that has
  pub decided_alone : (turns : ℕ) (s : Scope) (n : List ℕ) (log : List (Key × Option Answer)) (found : List Entity) (after : List (Key × Option Answer))
      → (found, after) ≡ runs (has turns s.kind s.path n) log → ((found, 0), after) ≡ runs (decided turns 0 (s ∷ []) n) log
  decided_alone turns s n log [] after h = sym (decided_on turns 0 s [] n log [] after h refl)
  decided_alone turns s n log (e ∷ found) after h = sym (decided_found turns 0 s [] n log (e ∷ found) after h refl)

  -- one part of a name
  pub part_on : (part : ℕ) (name : List ℕ) (there : Lookup (List Entity)) (log : List (Key × Option Answer)) (found : List Entity) (after : List (Key × Option Answer))
      → (found, after) ≡ runs there log → runs (part_of part name there) log ≡ (placed part (judged name found), after)
  part_on part name there log found after h = runs-and_then there (λ found. Done (placed part (judged name found))) log found after h

  -- and of what is one
  pub further_on : (turns part : ℕ) (e : Entity) (name : List ℕ) (names : List (List ℕ)) (log : List (Key × Option Answer)) (r : Result Entity NameFault) (after : List (Key × Option Answer)) → is_scope e.kind ≡ true
      → (r, after) ≡ runs (part_of (part + 1) name (has turns e.kind e.path (folded name))) log
      → runs (further turns part e (name ∷ names)) log ≡ runs (by_result r (λ f. further turns (part + 1) f names) (λ fault. Done (Err fault))) after
  further_on turns part e name names log r after h gives =
      ap (λ b. runs (cond b (and_then (part_of (part + 1) name (has turns e.kind e.path (folded name))) (λ r. by_result r (λ f. further turns (part + 1) f names) (λ fault. Done (Err fault)))) (Done (Err (At NoScope part)))) log) h
      ∙ runs-and_then (part_of (part + 1) name (has turns e.kind e.path (folded name))) (λ r. by_result r (λ f. further turns (part + 1) f names) (λ fault. Done (Err fault))) log r after gives

  -- the first part of a name
  pub first_on : (turns : ℕ) (cursor : List Scope) (name : ScopedName) (log : List (Key × Option Answer)) (found : List Entity) (inside : ℕ) (after : List (Key × Option Answer))
      → ((found, inside), after) ≡ runs (decided turns 0 (searched name.is_global cursor) (folded name.first)) log
      → runs (first_part turns cursor name) log ≡ ((placed 0 (judged name.first found), inside), after)
  first_on turns cursor name log found inside after h =
      runs-and_then (decided turns 0 (searched name.is_global cursor) (folded name.first)) (λ d. Done (placed 0 (judged name.first d.0), d.1)) log (found, inside) after h

  -- what a name comes to from its first part, which the scope with so many inside it decides
  abbrev pub from_first : ℕ → List Scope → ScopedName → ℕ → Entity → Lookup (Result Found NameFault)
  from_first turns cursor name inside first = and_then (further turns 0 first name.rest) (λ last. Done (found_as (reach_of name cursor inside first) last))

  pub from_first_on : (turns : ℕ) (cursor : List Scope) (name : ScopedName) (inside : ℕ) (first : Entity) (log : List (Key × Option Answer)) (r : Result Entity NameFault) (after : List (Key × Option Answer))
      → (r, after) ≡ runs (further turns 0 first name.rest) log → runs (from_first turns cursor name inside first) log ≡ (found_as (reach_of name cursor inside first) r, after)
  from_first_on turns cursor name inside first log r after h =
      runs-and_then (further turns 0 first name.rest) (λ last. Done (found_as (reach_of name cursor inside first) last)) log r after h

  pub denoted_on : (turns : ℕ) (cursor : List Scope) (name : ScopedName) (log : List (Key × Option Answer)) (r : Result Entity NameFault) (inside : ℕ) (after : List (Key × Option Answer))
      → ((r, inside), after) ≡ runs (first_part turns cursor name) log
      → runs (denoted turns cursor name) log ≡ runs (by_result r (from_first turns cursor name inside) (λ fault. Done (Err fault))) after
  denoted_on turns cursor name log r inside after h =
      runs-and_then (first_part turns cursor name) (λ r. by_result r.0 (from_first turns cursor name r.1) (λ fault. Done (Err fault))) log (r, inside) after h
