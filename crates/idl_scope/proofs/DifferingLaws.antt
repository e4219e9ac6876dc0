-- Additions that take the place of others, over answers that are the same outside some keys: with them they are so outside these and
-- the keys at which the two differ.
use Rattle.std.proofs.Common.{◌≡◌, ◌⊎◌, ℕ, Bool, true, false, cond, List, [], ◌∷◌, ◌++◌, map, Option, Some, None, is_some, refl, sym, ap, ◌∙◌, subst, inl, inr, true≢false}
use Rattle.std.specs.Prelude.{filter, flat_map, not}
use Rattle.std.specs.List.{list_any}
use Rattle.idl_base.specs.Exact.{both, same_list}
use Rattle.idl_entity.specs.Path.{path_eq, same_path}
use Rattle.idl_env.specs.Differing.{differing, has_alike, is_alike, unless_of, unlike}
use Rattle.idl_env.specs.Facts.{addition_at, answer_of, entity_in, is_stopped, key_of, over, stops_of, unstopped}
use Rattle.idl_env.specs.Outside.{AgreeOutside, AreApart}
use Rattle.idl_env.specs.SameAnswer.{same_answer}
use Rattle.idl_env.specs.SameKey.{same_key}
use Rattle.idl_env.specs.keys.Digested.{key_equiv}
use Rattle.idl_env.specs.keys.Key.{key_eq}
use Rattle.idl_env.specs.declared.additions.addition.Addition.{Addition}
use Rattle.idl_env.specs.declared.additions.addition.Addition.TheVariants.{UsesFurther}
use Rattle.idl_env.specs.declared.answering.answer.Answer.{Answer}
use Rattle.idl_env.specs.declared.keys.key.Key.{Key}
use Rattle.idl_env.specs.declared.keys.key.Key.TheVariants.{Declared, Introduced}
use Rattle.idl_env.proofs.AnswerLaws.AnswerLemmas.{over-cons}
use Rattle.idl_env.proofs.Membership.{Contains-IsIn, IsIn, IsIn-Contains, IsIn-left, IsIn-right}
use Rattle.idl_env.proofs.StoppedLemmas.{declared-same, unstopped-keys}
use Rattle.idl_scope.proofs.Constructors.{some_same}
use Rattle.idl_scope.proofs.Worlds.{addition_at-Some, flat_map-in}

-- ---- where additions change nothing

-- additions change no answer but at their keys
pub over-elsewhere : (additions : List Addition) (k : Key) (before : Option Answer) → (IsIn k (map key_of additions) → ⊥) → over additions k before ≡ before
over-elsewhere [] k before out = refl
over-elsewhere (a ∷ additions) k before out = over-cons a additions k before ∙ by (key_eq k (key_of a)) refl (over-elsewhere additions k before (λ i. out (inr i)))
  where
    by : (t : Bool) → key_eq k (key_of a) ≡ t → over additions k before ≡ before → cond t (Some (answer_of a)) (over additions k before) ≡ before
    by true t rest = absurd (out (inl (sym (same_key k (key_of a) t))))
    by false t rest = rest

-- and without those of them that are stopped
pub added-elsewhere : (answers : Key → Option Answer) (additions : List Addition) (k : Key) → (IsIn k (map key_of additions) → ⊥) → over (unstopped answers additions) k (answers k) ≡ answers k
added-elsewhere answers additions k out = over-elsewhere (unstopped answers additions) k (answers k) (λ i. out (unstopped-keys answers k additions i))

-- where none is found at a key, none is at it
nowhere : (additions : List Addition) (k : Key) → addition_at additions k ≡ None → IsIn k (map key_of additions) → ⊥
nowhere [] k none i = i
nowhere (a ∷ additions) k none i = by (key_eq k (key_of a)) refl (nowhere additions k) none i
  where
    by : (t : Bool) → key_eq k (key_of a) ≡ t → (addition_at additions k ≡ None → IsIn k (map key_of additions) → ⊥) → cond t (Some a) (addition_at additions k) ≡ None → IsIn k (key_of a ∷ map key_of additions) → ⊥
    by true e rest h j = cc
    by false e rest h (inl same) = true≢false (sym (key_equiv.refl k) ∙ ap (key_eq k) (sym same) ∙ e)
    by false e rest h (inr j) = rest h j

-- one at a key, where there is one
at-key : (additions : List Addition) (k : Key) → IsIn k (map key_of additions) → (a : Addition) × IsIn a additions × (key_of a ≡ k)
at-key [] k i = absurd i
at-key (a ∷ additions) k (inl same) = (a, inl refl, same)
at-key (a ∷ additions) k (inr j) = let r = at-key additions k j in (r.0, inr r.1, r.2)

-- ---- what is alike

alike-answer : (a b : Addition) → is_alike a b ≡ true → answer_of a ≡ answer_of b
alike-answer a b h = same_answer (answer_of a) (answer_of b) (both _ _ (both _ _ h).1).1

name_same : (n m : List ℕ) (p q : List (List ℕ)) (b c : ℕ) → Introduced n p b ≡ Introduced m q c → n ≡ m
name_same n m p q b c h = cc

stops-by : (a b : Addition) → key_of a ≡ key_of b → unless_of a ≡ unless_of b → stops_of a ≡ stops_of b
stops-by (UsesFurther n p further) (UsesFurther m q others) same unless =
    let name = name_same n m p q further.body others.body same in
    λ i. map (λ r. Declared (name i) r) (unless i)
stops-by (UsesFurther n p further) other same unless = ap (map (λ r. Declared n r)) unless
stops-by other (UsesFurther m q others) same unless = ap (map (λ r. Declared m r)) unless
stops-by a b same unless = refl

alike-stops : (a b : Addition) → is_alike a b ≡ true → stops_of a ≡ stops_of b
alike-stops a b h =
    stops-by a b (same_key (key_of a) (key_of b) (both _ _ h).0) (same_list path_eq same_path (unless_of a) (unless_of b) (both _ _ (both _ _ h).1).0)

module _ (others : List Addition) where
  -- an addition to which none of the others is alike is told by its key
  unlike-in : (additions : List Addition) (a : Addition) → IsIn a additions → has_alike others a ≡ false → IsIn (key_of a) (unlike additions others)
  unlike-in [] a i h = absurd i
  unlike-in (b ∷ additions) a i h = by (has_alike others b) refl (unlike-in additions a) i
    where
      rest : List Addition
      rest = filter (λ c. not (has_alike others c)) additions

      by : (t : Bool) → has_alike others b ≡ t → (IsIn a additions → has_alike others a ≡ false → IsIn (key_of a) (map key_of rest)) → (b ≡ a) ⊎ IsIn a additions
          → IsIn (key_of a) (map key_of (cond (not t) (b ∷ rest) rest))
      by true e more (inl same) = absurd (true≢false (sym e ∙ ap (has_alike others) same ∙ h))
      by true e more (inr j) = more j h
      by false e more (inl same) = inl (ap key_of same)
      by false e more (inr j) = inr (more j h)

  -- so one is alike to each addition at another key
  alike-there : (additions : List Addition) (k : Key) → (IsIn k (unlike additions others) → ⊥) → (a : Addition) → IsIn a additions → key_of a ≡ k → has_alike others a ≡ true
  alike-there additions k out a i same = by (has_alike others a) refl
    where
      by : (t : Bool) → has_alike others a ≡ t → has_alike others a ≡ true
      by true h = h
      by false h = absurd (out (subst (λ (q : Key). IsIn q (unlike additions others)) same (unlike-in additions a i h)))

  -- that one
  found-alike : (a : Addition) → has_alike others a ≡ true → (b : Addition) × (addition_at others (key_of a) ≡ Some b) × (is_alike a b ≡ true)
  found-alike a h = by (addition_at others (key_of a)) refl h
    where
      by : (o : Option Addition) → addition_at others (key_of a) ≡ o → elim o as (λ _. Bool) [ None ↦ false | Some b ↦ is_alike a b ] ≡ true
          → (b : Addition) × (addition_at others (key_of a) ≡ Some b) × (is_alike a b ≡ true)
      by None e g = absurd (true≢false (sym g))
      by (Some b) e g = (b, e, g)

  -- which is the one at the key
  alike-to : (k : Key) (a b : Addition) → addition_at others k ≡ Some b → key_of a ≡ k → has_alike others a ≡ true → is_alike a b ≡ true
  alike-to k a b here same h =
      let r = found-alike a h in
      let one : r.0 ≡ b = some_same (sym r.1 ∙ ap (addition_at others) same ∙ here) in
      subst (λ (x : Addition). is_alike a x ≡ true) one r.2

-- ---- additions of which those at a key are alike

-- one of these keys has an entity
abbrev is_declared : (Key → Option Answer) → List Key → Bool
is_declared answers keys = list_any (λ k. is_some (entity_in (answers k))) keys

either_way : (b : Bool) (before : Option Answer) → cond b before before ≡ before
either_way true before = refl
either_way false before = refl

-- where those at a key leave one answer and are stopped by the same, this is what is answered
over-uniform : (answers : Key → Option Answer) (k : Key) (x : Answer) (stops : List Key) (additions : List Addition) (before : Option Answer)
    → ((a : Addition) → IsIn a additions → key_of a ≡ k → (answer_of a ≡ x) × (stops_of a ≡ stops))
    → over (unstopped answers additions) k before ≡ cond (is_some (addition_at additions k)) (cond (is_declared answers stops) before (Some x)) before
over-uniform answers k x stops [] before all = refl
over-uniform answers k x stops (a ∷ additions) before all =
    by (key_eq k (key_of a)) refl (is_stopped answers a) refl (over-uniform answers k x stops additions before (λ b i. all b (inr i)))
  where
    left : List Addition
    left = unstopped answers additions

    declared : Bool
    declared = is_declared answers stops

    is_there : Bool
    is_there = is_some (addition_at additions k)

    by : (t : Bool) → key_eq k (key_of a) ≡ t → (s : Bool) → is_stopped answers a ≡ s → over left k before ≡ cond is_there (cond declared before (Some x)) before
        → over (cond (not s) (a ∷ left) left) k before ≡ cond (is_some (cond t (Some a) (addition_at additions k))) (cond declared before (Some x)) before
    by true e true h rest =
        let own = all a (inl refl) (sym (same_key k (key_of a) e)) in
        let is : declared ≡ true = ap (is_declared answers) (sym own.1) ∙ h in
        rest ∙ ap (λ b. cond is_there (cond b before (Some x)) before) is ∙ either_way is_there before ∙ sym (ap (λ b. cond b before (Some x)) is)
    by true e false h rest =
        let own = all a (inl refl) (sym (same_key k (key_of a) e)) in
        let is : declared ≡ false = ap (is_declared answers) (sym own.1) ∙ h in
        over-cons a left k before ∙ ap (λ b. cond b (Some (answer_of a)) (over left k before)) e ∙ ap Some own.0 ∙ sym (ap (λ b. cond b before (Some x)) is)
    by false e true h rest = rest
    by false e false h rest = over-cons a left k before ∙ ap (λ b. cond b (Some (answer_of a)) (over left k before)) e ∙ rest

-- ---- additions in the place of others

-- the keys outside of which answers are the same where additions take the place of others
abbrev pub exchanged : List Key → List Addition → List Addition → List Key
exchanged keys additions others = keys ++ differing additions others

pub over-exchanged : (keys : List Key) (fs gs : List Addition) (bank other : Key → Option Answer) → AgreeOutside keys bank other → AreApart (flat_map stops_of gs) keys
    → AgreeOutside (exchanged keys fs gs) (λ k. over (unstopped bank fs) k (bank k)) (λ k. over (unstopped other gs) k (other k))
over-exchanged keys fs gs bank other same apart k out = by (addition_at fs k) refl
  where
    all : List Key
    all = exchanged keys fs gs

    mine : (a : Addition) → IsIn a fs → key_of a ≡ k → has_alike gs a ≡ true
    mine = alike-there gs fs k (λ i. out (Contains-IsIn k all (IsIn-right k keys (differing fs gs) (IsIn-left k (unlike fs gs) (unlike gs fs) i))))

    theirs : (a : Addition) → IsIn a gs → key_of a ≡ k → has_alike fs a ≡ true
    theirs = alike-there fs gs k (λ i. out (Contains-IsIn k all (IsIn-right k keys (differing fs gs) (IsIn-right k (unlike fs gs) (unlike gs fs) i))))

    here : other k ≡ bank k
    here = same k (λ c. out (Contains-IsIn k all (IsIn-left k keys (differing fs gs) (IsIn-Contains k keys c))))

    none-there : addition_at fs k ≡ None → IsIn k (map key_of gs) → ⊥
    none-there none i =
        let b = at-key gs k i in
        let r = found-alike fs b.0 (theirs b.0 b.1 b.2) in
        let clash : None ≡ Some r.0 = sym none ∙ ap (addition_at fs) (sym b.2) ∙ r.1 in
        cc

    by : (o : Option Addition) → addition_at fs k ≡ o → over (unstopped other gs) k (other k) ≡ over (unstopped bank fs) k (bank k)
    by None none = added-elsewhere other gs k (none-there none) ∙ here ∙ sym (added-elsewhere bank fs k (nowhere fs k none))
    by (Some a) is =
        let r = addition_at-Some fs k a is in
        let f = found-alike gs a (mine a r.0 (sym r.1)) in
        let b = f.0 in
        let there : addition_at gs k ≡ Some b = ap (addition_at gs) r.1 ∙ f.1 in
        let x = answer_of b in
        let stops = stops_of b in
        let ours : (c : Addition) → IsIn c fs → key_of c ≡ k → (answer_of c ≡ x) × (stops_of c ≡ stops) = λ c i e.
        let alike = alike-to gs k c b there e (mine c i e) in
        (alike-answer c b alike, alike-stops c b alike) in
        let others : (c : Addition) → IsIn c gs → key_of c ≡ k → (answer_of c ≡ x) × (stops_of c ≡ stops) = λ c i e.
        let alike = alike-to fs k c a is e (theirs c i e) in
        (alike-answer c a alike ∙ alike-answer a b f.2, alike-stops c a alike ∙ alike-stops a b f.2) in
        let stopped : is_declared other stops ≡ is_declared bank stops = declared-same bank other stops
        (λ q i. same q (apart q (Contains-IsIn q (flat_map stops_of gs) (flat_map-in stops_of gs b q (addition_at-Some gs k b there).0 i)))) in
        over-uniform other k x stops gs (other k) others
        ∙ ap (λ o. cond (is_some o) (cond (is_declared other stops) (other k) (Some x)) (other k)) there
        ∙ (λ i. cond (stopped i) (here i) (Some x))
        ∙ sym (over-uniform bank k x stops fs (bank k) ours ∙ ap (λ o. cond (is_some o) (cond (is_declared bank stops) (bank k) (Some x)) (bank k)) is)
