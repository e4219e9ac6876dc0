-- Runs of what stands behind typedefs.
use Rattle.std.proofs.Common.{◌≡◌, ◌⊎◌, ◌∙◌, ℕ, zero, suc, ◌+◌, ◌-◌, ◌<◌, ◌≤◌, Bool, true, false, cond, List, [], ◌∷◌, ◌++◌, length, Option, None, Some, refl, sym, ap, subst, inl, inr, arith, length-append}
use Rattle.std.proofs.lemmas.Bool.{or_right}
use Rattle.std.specs.Prelude.{◌&&◌, ◌||◌}
use Rattle.std.specs.Cmp.Lexicographic.{bytes_decides, pointwise_decides}
use Rattle.std.proofs.lemmas.List.Folds.{list_any-append}
use Rattle.idl_memo.specs.Query.{Done, Ask, is_logged, noted}
use Rattle.idl_check.specs.told.Types.{aliased, behind_typedefs, path_in}
use Rattle.idl_env.proofs.Membership.{Distinct, Distinct-push, IsIn, IsIn-left, IsIn-one, IsIn-right, IsIn-split, either, length-Distinct}
use Rattle.idl_scope.proofs.LookupLaws.RunLemmas.{runs, seen_at}
use Rattle.idl_scope.proofs.LookupLaws.Walked.{among, among-IsIn}
use Rattle.idl_scope.proofs.Worlds.{AreDeclared, entity_in-Some}
use Rattle.idl_scope.proofs.LookupLaws.LookupLaws.{seen-declared}
use Rattle.idl_env.specs.Facts.{UnitFacts, answers, entity_in, entity_key}
use Rattle.idl_env.specs.Turns.{HasTurnsFor, declared_among, declared_named}
use Rattle.idl_env.specs.keys.Key.{key_eq}
use Rattle.idl_scope.specs.Lookup.{Lookup}
use Rattle.idl_env.specs.declared.additions.addition.Addition.{Addition}
use Rattle.idl_env.specs.declared.answering.answer.Answer.{Answer}
use Rattle.idl_env.specs.declared.answering.answer.Answer.TheVariants.{Known}
use Rattle.idl_entity.specs.declared.entity.Entity.{Entity}
use Rattle.idl_env.specs.declared.keys.key.Key.{Key}
use Rattle.idl_env.specs.declared.keys.key.Key.TheVariants.{Declared}
use Rattle.idl_lex.specs.kinds.Keywords.{folded}
use Rattle.idl_entity.specs.Path.{name_of, scope_of}

-- one more typedef, where there is one
abbrev next_typedef : ℕ → Entity → Entity → Option (List (List ℕ)) → Lookup Entity
next_typedef turns name e o =
    elim o [
      | None ↦ Done e
      | Some path ↦ Ask (entity_key path)
          (λ there. elim (entity_in there)
          [ None ↦ Done e | Some f ↦ behind_typedefs turns name f ])
    ]

abbrev typedef_behind : ℕ → Entity → Entity → Option Entity → Lookup Entity
typedef_behind turns name e o = elim o [ None ↦ Done e | Some f ↦ behind_typedefs turns name f ]

-- a turn less is left
pub fewer_turns : (turns at : ℕ) → at < turns → turns - at ≡ suc (turns - (at + 1))
fewer_turns turns at h = omega (arith, h)

pub next_turn : (turns at : ℕ) → at < turns → at + 1 ≤ turns
next_turn turns at h = omega (arith, h)

-- ---- keys that are logged

own_key : (n : List ℕ) (p : List (List ℕ)) → key_eq (Declared n p) (Declared n p) ≡ true
own_key n p = λ i. (bytes_decides n n).1 refl i && (pointwise_decides bytes_decides p p).1 refl i

own_key_at : (p : List (List ℕ)) → key_eq (entity_key p) (entity_key p) ≡ true
own_key_at p = own_key (folded (name_of p)) (scope_of p)

-- a path is among paths, or it isn't
decided : (p : List (List ℕ)) (paths : List (List (List ℕ))) → (IsIn p paths) ⊎ (IsIn p paths → ⊥)
decided p paths = by_test (either (among p paths))
  where
    by_test : (among p paths ≡ true) ⊎ (among p paths ≡ false) → (IsIn p paths) ⊎ (IsIn p paths → ⊥)
    by_test (inl h) = inl ((among-IsIn p paths).0 h)
    by_test (inr h) = inr (λ i. absurd (let both : true ≡ false = sym ((among-IsIn p paths).1 i) ∙ h in cc))

module _ (bank : Key → Option Answer) (log : List (Key × Option Answer)) where
  -- a key that is there is not logged again
  noted-there : (k : Key) → is_logged key_eq log k ≡ true → noted key_eq bank log k ≡ log
  noted-there k h = ap (λ b. cond b log (log ++ (k, bank k) ∷ [])) h

  -- once it is logged, it is there, and so are those that were
  noted-new : (k : Key) → key_eq k k ≡ true → is_logged key_eq (noted key_eq bank log k) k ≡ true
  noted-new k one = by_test (is_logged key_eq log k) refl
    where
      by_test : (b : Bool) → is_logged key_eq log k ≡ b → is_logged key_eq (cond b log (log ++ (k, bank k) ∷ [])) k ≡ true
      by_test true h = h
      by_test false h =
          list_any-append (λ (e : Key × Option Answer). key_eq k e.0) log ((k, bank k) ∷ [])
          ∙ ap (λ t. is_logged key_eq log k || (t || false)) one
          ∙ or_right (is_logged key_eq log k) true refl

  noted-kept : (k j : Key) → is_logged key_eq log j ≡ true → is_logged key_eq (noted key_eq bank log k) j ≡ true
  noted-kept k j h = by_test (is_logged key_eq log k)
    where
      by_test : (b : Bool) → is_logged key_eq (cond b log (log ++ (k, bank k) ∷ [])) j ≡ true
      by_test true = h
      by_test false =
          list_any-append (λ (e : Key × Option Answer). key_eq j e.0) log ((k, bank k) ∷ [])
          ∙ ap (λ t. t || (key_eq j k || false)) h

module _ (own : List Addition) (bank : Key → Option Answer) (name : Entity) where
  -- what is the name of no typedef stands for itself
  pub behind_end : (turns : ℕ) (e : Entity) (log : List (Key × Option Answer)) → path_in (aliased e) ≡ None → runs own bank (behind_typedefs (suc turns) name e) log ≡ (e, log)
  behind_end turns e log h = ap (λ o. runs own bank (next_typedef turns name e o) log) h

  -- so does a name that stands for what is not declared
  pub behind_nothing : (turns : ℕ) (e : Entity) (path : List (List ℕ)) (log : List (Key × Option Answer)) → path_in (aliased e) ≡ Some path → entity_in (seen_at own bank (entity_key path)) ≡ None
      → runs own bank (behind_typedefs (suc turns) name e) log ≡ (e, noted key_eq bank log (entity_key path))
  behind_nothing turns e path log h none =
      ap (λ o. runs own bank (next_typedef turns name e o) log) h
      ∙ ap (λ o. runs own bank (typedef_behind turns name e o) (noted key_eq bank log (entity_key path))) none

  -- one typedef more
  pub behind_on : (turns : ℕ) (e : Entity) (path : List (List ℕ)) (f : Entity) (log : List (Key × Option Answer)) → path_in (aliased e) ≡ Some path → entity_in (seen_at own bank (entity_key path)) ≡ Some f
      → runs own bank (behind_typedefs (suc turns) name e) log ≡ runs own bank (behind_typedefs turns name f) (noted key_eq bank log (entity_key path))
  behind_on turns e path f log h some =
      ap (λ o. runs own bank (next_typedef turns name e o) log) h
      ∙ ap (λ o. runs own bank (typedef_behind turns name e o) (noted key_eq bank log (entity_key path))) some

  -- ---- more turns than there are entities change nothing

  -- the entity at a path
  abbrev there_at : List (List ℕ) → Option Entity
  there_at p = entity_in (seen_at own bank (entity_key p))

  -- an entity leads on to one of these paths
  abbrev LeadsTo : List (List (List ℕ)) → Entity → Type 0
  LeadsTo met f = (q : List (List ℕ)) × (h : Entity) × (path_in (aliased f) ≡ Some q) × (there_at q ≡ Some h) × IsIn h.path met

  -- all of these paths are asked
  abbrev AreAsked : List (List (List ℕ)) → List (Key × Option Answer) → Type 0
  AreAsked met log = (p : List (List ℕ)) → IsIn p met → is_logged key_eq log (entity_key p) ≡ true

  -- each leads on to one of them, or stands for this entity
  abbrev LeadOnTo : List (List (List ℕ)) → Entity → Type 0
  LeadOnTo met e = (p : List (List ℕ)) (f : Entity) → IsIn p met → there_at p ≡ Some f → (f ≡ e) ⊎ LeadsTo met f

  module _ (places : List (List (List ℕ))) (d : AreDeclared places (seen_at own bank)) where
    -- an entity stands under its own path
    same_key_at : (q : List (List ℕ)) (h : Entity) → there_at q ≡ Some h → entity_key q ≡ entity_key h.path
    same_key_at q h is = (d (entity_key q) (Known h) (entity_in-Some (seen_at own bank (entity_key q)) h is) h refl).0

    placed_at : (q : List (List ℕ)) (h : Entity) → there_at q ≡ Some h → IsIn h.path places
    placed_at q h is = (d (entity_key q) (Known h) (entity_in-Some (seen_at own bank (entity_key q)) h is) h refl).1 h.path (inl refl)

    at_own : (q : List (List ℕ)) (h : Entity) → there_at q ≡ Some h → there_at h.path ≡ Some h
    at_own q h is = ap (λ k. entity_in (seen_at own bank k)) (sym (same_key_at q h is)) ∙ is

    -- a chain that goes round has no end, and asks nothing more
    round : (met : List (List (List ℕ))) → ((p : List (List ℕ)) (f : Entity) → IsIn p met → there_at p ≡ Some f → LeadsTo met f)
        → (log : List (Key × Option Answer)) → AreAsked met log → (turns : ℕ) (f : Entity) → IsIn f.path met → there_at f.path ≡ Some f
        → runs own bank (behind_typedefs turns name f) log ≡ (name, log)
    round met leads log asked zero f i is = refl
    round met leads log asked (suc turns) f i is =
        let on = leads f.path f i is in
        let q = on.0 in
        let h = on.1 in
        let same : noted key_eq bank log (entity_key q) ≡ log = noted-there bank log (entity_key q) (ap (is_logged key_eq log) (same_key_at q h on.3) ∙ asked h.path on.4) in
        behind_on turns f q h log on.2 on.3
        ∙ ap (λ l. runs own bank (behind_typedefs turns name h) l) same
        ∙ round met leads log asked turns h on.4 (at_own q h on.3)

    -- a chain that has come to an entity, through these
    record IsOnWay (met : List (List (List ℕ))) (e : Entity) (log : List (Key × Option Answer)) : Type 0 where
      once : Distinct met
      known : (p : List (List ℕ)) → IsIn p met → IsIn p places
      asked : AreAsked met log
      leads : LeadOnTo met e

    on_way : (met : List (List (List ℕ))) (e : Entity) (log : List (Key × Option Answer)) (q : List (List ℕ)) (h : Entity) → path_in (aliased e) ≡ Some q → there_at q ≡ Some h → (IsIn h.path met → ⊥)
        → IsOnWay met e log → IsOnWay (met ++ h.path ∷ []) h (noted key_eq bank log (entity_key q))
    on_way met e log q h next is new way = record {
      once = Distinct-push h.path met new way.once;
      known = λ p i. elim (IsIn-split p met (h.path ∷ []) i) [
        | inl j ↦ way.known p j
        | inr j ↦ (let Q : List (List ℕ) → Type 0 = λ x. IsIn x places in subst Q (IsIn-one h.path p j) (placed_at q h is))
      ];
      asked = λ p i. elim (IsIn-split p met (h.path ∷ []) i) [
        | inl j ↦ noted-kept bank log (entity_key q) (entity_key p) (way.asked p j)
        | inr j ↦ ap (λ k. is_logged key_eq (noted key_eq bank log (entity_key q)) k) (ap entity_key (sym (IsIn-one h.path p j)) ∙ sym (same_key_at q h is)) ∙ noted-new bank log (entity_key q) (own_key_at q)
      ];
      leads = λ p f i there. elim (IsIn-split p met (h.path ∷ []) i) as (λ _. (f ≡ h) ⊎ LeadsTo (met ++ h.path ∷ []) f) [
        | inl j ↦ further p f j there
        | inr j ↦ inl (one_entity (sym there ∙ ap there_at (sym (IsIn-one h.path p j)) ∙ at_own q h is))
      ];
    }
      where
        one_entity : {x y : Entity} → Some x ≡ Some y → x ≡ y
        one_entity same = cc

        last : IsIn h.path (met ++ h.path ∷ [])
        last = IsIn-right h.path met (h.path ∷ []) (inl refl)

        further : (p : List (List ℕ)) (f : Entity) → IsIn p met → there_at p ≡ Some f → (f ≡ h) ⊎ LeadsTo (met ++ h.path ∷ []) f
        further p f j there = elim (way.leads p f j there) as (λ _. (f ≡ h) ⊎ LeadsTo (met ++ h.path ∷ []) f) [
          | inl same ↦ inr (q, h, ap (λ x. path_in (aliased x)) same ∙ next, is, last)
          | inr on ↦ inr (on.0, on.1, on.2, on.3, IsIn-left on.1.path met (h.path ∷ []) on.4)
        ]

    more-same : (extra turns : ℕ) (met : List (List (List ℕ))) (e : Entity) (log : List (Key × Option Answer)) → IsOnWay met e log → length places + 1 ≤ length met + turns
        → runs own bank (behind_typedefs (turns + extra) name e) log ≡ runs own bank (behind_typedefs turns name e) log
    more-same extra zero met e log way few =
        let k = length-Distinct met places way.once way.known in
        absurd (omega (arith, k, few))
    more-same extra (suc turns) met e log way few =
        let more : suc turns + extra ≡ suc (turns + extra) = omega arith in
        ap (λ m. runs own bank (behind_typedefs m name e) log) more
        ∙ by_next (λ q h next is new. more-same extra turns (met ++ h.path ∷ []) h (noted key_eq bank log (entity_key q)) (on_way met e log q h next is new way)
        (let l = length-append met (h.path ∷ []) in omega (arith, l, few))) (path_in (aliased e)) refl
      where
        -- the chain goes on through one more
        GoesOn : Type 0
        GoesOn = (q : List (List ℕ)) (h : Entity) → path_in (aliased e) ≡ Some q → there_at q ≡ Some h → (IsIn h.path met → ⊥)
            → runs own bank (behind_typedefs (turns + extra) name h) (noted key_eq bank log (entity_key q)) ≡ runs own bank (behind_typedefs turns name h) (noted key_eq bank log (entity_key q))

        by_among : GoesOn → (q : List (List ℕ)) (h : Entity) → path_in (aliased e) ≡ Some q → there_at q ≡ Some h → (IsIn h.path met) ⊎ (IsIn h.path met → ⊥)
            → runs own bank (behind_typedefs (turns + extra) name h) (noted key_eq bank log (entity_key q)) ≡ runs own bank (behind_typedefs turns name h) (noted key_eq bank log (entity_key q))
        by_among on q h next is (inl met_again) =
            let leads : (p : List (List ℕ)) (f : Entity) → IsIn p met → there_at p ≡ Some f → LeadsTo met f = λ p f i there. elim (way.leads p f i there) [
              | inl same ↦ (q, h, ap (λ x. path_in (aliased x)) same ∙ next, is, met_again)
              | inr leads_on ↦ leads_on
            ] in
            let asked : AreAsked met (noted key_eq bank log (entity_key q)) = λ p i. noted-kept bank log (entity_key q) (entity_key p) (way.asked p i) in
            round met leads (noted key_eq bank log (entity_key q)) asked (turns + extra) h met_again (at_own q h is)
            ∙ sym (round met leads (noted key_eq bank log (entity_key q)) asked turns h met_again (at_own q h is))
        by_among on q h next is (inr new) = on q h next is new

        by_there : GoesOn → (q : List (List ℕ)) → path_in (aliased e) ≡ Some q → (o : Option Entity) → there_at q ≡ o
            → runs own bank (behind_typedefs (suc (turns + extra)) name e) log ≡ runs own bank (behind_typedefs (suc turns) name e) log
        by_there on q next None is = behind_nothing (turns + extra) e q log next is ∙ sym (behind_nothing turns e q log next is)
        by_there on q next (Some h) is =
            behind_on (turns + extra) e q h log next is
            ∙ by_among on q h next is (decided h.path met)
            ∙ sym (behind_on turns e q h log next is)

        by_next : GoesOn → (o : Option (List (List ℕ))) → path_in (aliased e) ≡ o
            → runs own bank (behind_typedefs (suc (turns + extra)) name e) log ≡ runs own bank (behind_typedefs (suc turns) name e) log
        by_next on None next = behind_end (turns + extra) e log next ∙ sym (behind_end turns e log next)
        by_next on (Some q) next = by_there on q next (there_at q) refl

    -- with a turn for each entity that is declared, and one, any two numbers of turns give the same and log the same
    pub behind-same : (turns other : ℕ) (e : Entity) (log : List (Key × Option Answer)) → length places + 1 ≤ turns → length places + 1 ≤ other
        → runs own bank (behind_typedefs turns name e) log ≡ runs own bank (behind_typedefs other name e) log
    behind-same turns other e log h g =
        let start : IsOnWay [] e log = record { once = tt; known = λ p i. absurd i; asked = λ p i. absurd i; leads = λ p f i there. absurd i } in
        let both : turns + other ≡ other + turns = omega arith in
        sym (more-same other turns [] e log start (omega (arith, h)))
        ∙ ap (λ t. runs own bank (behind_typedefs t name e) log) both
        ∙ more-same turns other [] e log start (omega (arith, g))

-- over facts, any number of turns that they and these additions need gives the same as one that no fewer entities are declared than
pub behind-any : (facts : List UnitFacts) (own : List Addition) (turns most : ℕ) (e : Entity) (log : List (Key × Option Answer)) → HasTurnsFor facts own turns
    → length (declared_named facts) + length (declared_among own) ≤ most
    → runs own (answers facts) (behind_typedefs (most + 1) e e) log ≡ runs own (answers facts) (behind_typedefs (suc turns) e e) log
behind-any facts own turns most e log h m =
    let l = length-append (declared_named facts) (declared_among own) in
    behind-same own (answers facts) e (declared_named facts ++ declared_among own) (seen-declared facts own) (most + 1) (suc turns) e log (omega (arith, l, m)) (omega (arith, l, h))
