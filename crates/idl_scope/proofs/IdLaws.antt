-- Answers about an id: where what identifies the name is the same, so are they.
use Rattle.std.proofs.Common.{◌≡◌, ◌∙◌, ℕ, ◌+◌, ◌-◌, Bool, true, false, cond, List, [], ◌∷◌, ◌++◌, Option, Some, None, length, take, refl, sym, ap, subst, arith}
use Rattle.std.proofs.lemmas.List.{length-append}
use Rattle.std.specs.Prelude.{codes}
use Rattle.idl_env.proofs.AnswerLaws.AnswerLemmas.{over-cons}
use Rattle.idl_scope.specs.Known.{told_at}
use Rattle.idl_scope.proofs.Constructors.{head_same, none_some, some_none, some_same, tail_same}
use Rattle.idl_entity.proofs.IdLemmas.{relative-inside, relative-name, within_global}
use Rattle.idl_env.specs.Facts.{UnitFacts, World, after, after_all, after_closing, after_step, answer_of, answers, closed, closing, entity_in, entity_key, first_world, key_of, over, scopes_in, unstopped, with_additions, world}
use Rattle.idl_entity.specs.Identity.{fixed_for, is_within, prefix_by, prefix_for, prefixed, relative, slashed, stem, told_by, version_text}
use Rattle.idl_env.specs.keys.Key.{key_eq}
use Rattle.idl_env.specs.declared.keys.key.Key.TheVariants.{Cursor, IdOf}
use Rattle.idl_entity.specs.Kind.{kind_eq}
use Rattle.idl_entity.specs.Path.{path_eq, same_path, scope_of}
use Rattle.idl_env.specs.declared.additions.addition.Addition.{Addition}
use Rattle.idl_env.specs.declared.additions.addition.Addition.TheVariants.{Declares, Uses, UsesFurther, Appears, Identifies, TypePrefixes}
use Rattle.idl_env.specs.declared.additions.addition.Step.{Step}
use Rattle.idl_env.specs.declared.additions.addition.Step.TheVariants.{Stays, Opens, OpensNameless, Closes, Prefixes}
use Rattle.idl_env.specs.declared.answering.answer.Answer.{Answer}
use Rattle.idl_env.specs.declared.answering.answer.Answer.TheVariants.{Open, Known, Used, Count, InForce, Appeared, Identified, Prefixed}
use Rattle.idl_env.specs.declared.answering.answer.Scope.{Scope}
use Rattle.idl_entity.specs.declared.entity.Entity.{Entity}
use Rattle.idl_entity.specs.declared.identity.Fixed.{Fixed}
use Rattle.idl_entity.specs.declared.identity.Fixed.TheVariants.{Version, Id}
use Rattle.idl_entity.specs.declared.identity.FixedIdentity.{FixedIdentity}
use Rattle.idl_entity.specs.declared.identity.Prefix.{Prefix}
use Rattle.idl_entity.specs.declared.kind.Kind.TheVariants.{Interface}

-- ---- a prefix in a scope around the name, and no other

pub prefix-around : (path : List (List ℕ)) (p : Prefix) → is_within (scope_of path) (prefix_for path p).scope ≡ true
prefix-around path p = by (is_within (scope_of path) p.scope) refl
  where
    by : (b : Bool) → is_within (scope_of path) p.scope ≡ b → is_within (scope_of path) (cond b p (record p { scope = [] })).scope ≡ true
    by true w = w
    by false w = within_global (scope_of path) [] refl

-- where a prefix may have been met where this was fixed
abbrev pub IsMetFor : List (List ℕ) → Fixed → List (List ℕ) → Type 0
IsMetFor path (Version major minor) scope = is_within (scope_of path) scope ≡ true
IsMetFor path (Id text) scope = scope ≡ []

met-for : (path : List (List ℕ)) (p : Prefix) (x : Fixed) → IsMetFor path x (prefix_by path p x).scope
met-for path p (Version major minor) = prefix-around path p
met-for path p (Id text) = refl

-- what may be answered of the id of the name at a path
abbrev pub IsOfId : List (List ℕ) → Option Answer → Type 0
IsOfId path None = Unit {0}
IsOfId path (Some (Appeared p)) = is_within (scope_of path) p.scope ≡ true
IsOfId path (Some (Identified d)) = IsMetFor path d.by d.prefix.scope
IsOfId path (Some other) = ⊥

additions-of-id : (path : List (List ℕ)) (additions : List Addition) (before : Option Answer) → IsOfId path before → IsOfId path (over additions (IdOf path) before)
additions-of-id path [] before h = h
additions-of-id path (a ∷ additions) before h =
    subst (λ o. IsOfId path o) (sym (over-cons a additions (IdOf path) before)) (by a (additions-of-id path additions before h))
  where
    at : (q : List (List ℕ)) (x rest : Option Answer) → IsOfId q x → IsOfId path rest → (b : Bool) → path_eq path q ≡ b → IsOfId path (cond b x rest)
    at q x rest own there true e = subst (λ r. IsOfId r x) (sym (same_path path q e)) own
    at q x rest own there false e = there

    by : (b : Addition) → IsOfId path (over additions (IdOf path) before) → IsOfId path (cond (key_eq (IdOf path) (key_of b)) (Some (answer_of b)) (over additions (IdOf path) before))
    by (Declares e) there = there
    by (Uses n p body) there = there
    by (UsesFurther n p further) there = there
    by (Appears q p) there = at q (Some (Appeared (prefix_for q p))) (over additions (IdOf path) before) (prefix-around q p) there (path_eq path q) refl
    by (Identifies q d) there = at q (Some (Identified (fixed_for q d))) (over additions (IdOf path) before) (met-for q d.prefix d.by) there (path_eq path q) refl
    by (TypePrefixes q t) there = there

-- no change of the open scopes, of the files entered or of the prefix changes an id
closing-keeps : (w : World) (s : Scope) (path : List (List ℕ)) (before : Option Answer) → over (closing w s) (IdOf path) before ≡ before
closing-keeps w s path before = by (kind_eq s.kind Interface) (entity_in (w.answers (entity_key s.path)))
  where
    by : (b : Bool) (o : Option Entity) → over (cond b (elim o as (λ _. List Addition) [ None ↦ [] | Some e ↦ Declares (closed w e) ∷ [] ]) []) (IdOf path) before ≡ before
    by true None = refl
    by true (Some e) = refl
    by false o = refl

step-keeps : (w : World) (step : Step) (path : List (List ℕ)) → (after_step w step).answers (IdOf path) ≡ w.answers (IdOf path)
step-keeps w Stays path = refl
step-keeps w (Opens p kind) path = refl
step-keeps w (OpensNameless kind) path = refl
step-keeps w Closes path = by (scopes_in (w.answers Cursor))
  where
    by : (scopes : List Scope) → (after_closing w scopes).answers (IdOf path) ≡ w.answers (IdOf path)
    by [] = refl
    by (s ∷ []) = refl
    by (s ∷ t ∷ outer) = closing-keeps w s path (w.answers (IdOf path))
step-keeps w (Prefixes text) path = refl
step-keeps w other path = refl

after_all-of-id : (path : List (List ℕ)) (facts : List UnitFacts) (w : World) → IsOfId path (w.answers (IdOf path)) → IsOfId path ((after_all w facts).answers (IdOf path))
after_all-of-id path [] w h = h
after_all-of-id path (f ∷ facts) w h =
    after_all-of-id path facts (after w f)
    (subst (λ o. IsOfId path o) (sym (step-keeps (with_additions f.additions w) f.step path)) (additions-of-id path (unstopped w.answers f.additions) (w.answers (IdOf path)) h))

pub answers-of-id : (facts : List UnitFacts) (path : List (List ℕ)) → IsOfId path (answers facts (IdOf path))
unfolding world
answers-of-id facts path = after_all-of-id path facts first_world tt

-- ---- how long names are with a mark behind each

abbrev weight : List (List ℕ) → ℕ
weight [] = 0
weight (n ∷ names) = length n + 1 + weight names

slashed-weight : (n : List ℕ) (names : List (List ℕ)) → length (slashed (n ∷ names)) + 1 ≡ weight (n ∷ names)
slashed-weight n [] = omega arith
slashed-weight n (m ∷ names) =
    omega (arith, length-append (slashed (m ∷ names)) (47 ∷ n), slashed-weight m names)

-- two beginnings of the same names that are as long leave the same
behind-same : (x y p q : List (List ℕ)) → x ++ p ≡ y ++ q → weight x ≡ weight y → p ≡ q
behind-same [] [] p q h w = h
behind-same [] (m ∷ y) p q h w = absurd (omega (arith, w))
behind-same (n ∷ x) [] p q h w = absurd (omega (arith, w))
behind-same (n ∷ x) (m ∷ y) p q h w =
    let lengths : length n ≡ length m = ap length (head_same h) in
    behind-same x y p q (tail_same h) (omega (arith, w, lengths))

nothing-behind : (x p : List (List ℕ)) → x ++ p ≡ [] → p ≡ []
nothing-behind [] p h = h
nothing-behind (n ∷ x) p h = cc

-- ---- equal identities

id-length : (path : List (List ℕ)) (p : Prefix) (v : List ℕ) → length (stem path p ++ 58 ∷ v) ≡ length (prefixed p.text) + length (slashed (relative path p.scope)) + 5 + length v
id-length path p v =
    let four : length (codes "IDL:") ≡ 4 = refl in
    omega (
      arith,
      four,
      length-append (stem path p) (58 ∷ v),
      length-append (codes "IDL:" ++ prefixed p.text) (slashed (relative path p.scope)),
      length-append (codes "IDL:") (prefixed p.text),
    )

scopes-same : (path p q : List (List ℕ)) → is_within (scope_of path) p ≡ true → is_within (scope_of path) q ≡ true
    → length (slashed (relative path p)) ≡ length (slashed (relative path q)) → p ≡ q
scopes-same [] p q h g same = nothing-behind (relative [] p) p (relative-inside [] p h) ∙ sym (nothing-behind (relative [] q) q (relative-inside [] q g))
scopes-same (n ∷ t) p q h g same =
    let x : List (List ℕ) = take (length t - length p) t in
    let y : List (List ℕ) = take (length t - length q) t in
    let a : relative (n ∷ t) p ≡ n ∷ x = relative-name n t p h in
    let b : relative (n ∷ t) q ≡ n ∷ y = relative-name n t q g in
    let lengths : length (slashed (n ∷ x)) ≡ length (slashed (n ∷ y)) =
    sym (ap (λ l. length (slashed l)) a) ∙ same ∙ ap (λ l. length (slashed l)) b in
    let weights : weight (n ∷ x) ≡ weight (n ∷ y) = sym (slashed-weight n x) ∙ ap (λ i. i + 1) lengths ∙ slashed-weight n y in
    let whole : (n ∷ x) ++ p ≡ (n ∷ y) ++ q =
    sym (ap (λ l. l ++ p) a) ∙ relative-inside (n ∷ t) p h ∙ sym (relative-inside (n ∷ t) q g) ∙ ap (λ l. l ++ q) b in
    behind-same (n ∷ x) (n ∷ y) p q whole weights

-- prefixes in scopes around the name under which it has one id, with one version
prefix-same : (path : List (List ℕ)) (p q : Prefix) (v : List ℕ) → is_within (scope_of path) p.scope ≡ true → is_within (scope_of path) q.scope ≡ true
    → p.text ≡ q.text → stem path p ++ 58 ∷ v ≡ stem path q ++ 58 ∷ v → p ≡ q
prefix-same path p q v h g text ids =
    let lengths : length (slashed (relative path p.scope)) ≡ length (slashed (relative path q.scope)) =
    omega (arith, ap length ids, id-length path p v, id-length path q v, ap (λ t. length (prefixed t)) text) in
    let scope : p.scope ≡ q.scope = scopes-same path p.scope q.scope h g lengths in
    λ i. record { text = text i; scope = scope i }

-- and the same where this was fixed
fixed-prefix-same : (path : List (List ℕ)) (x : Fixed) (p q : Prefix) → IsMetFor path x p.scope → IsMetFor path x q.scope → p.text ≡ q.text
    → told_by path p (Some x) ≡ told_by path q (Some x) → p ≡ q
fixed-prefix-same path (Version major minor) p q h g text ids = prefix-same path p q (version_text (Some (Version major minor))) h g text ids
fixed-prefix-same path (Id given) p q h g text ids = let scope : p.scope ≡ q.scope = h ∙ sym g in λ i. record { text = text i; scope = scope i }

-- what an answer tells
abbrev Told : Type 0
Told = List ℕ × (List ℕ × Option Fixed)

fixed-same : (path : List (List ℕ)) (d e : FixedIdentity) → IsMetFor path d.by d.prefix.scope → IsMetFor path e.by e.prefix.scope
    → told_at path (Some (Identified d)) ≡ told_at path (Some (Identified e)) → d ≡ e
fixed-same path d e h g same =
    let parts = some_same same in
    let by : d.by ≡ e.by = some_same (ap (λ (t : Told). t.1.1) parts) in
    let text : d.prefix.text ≡ e.prefix.text = ap (λ (t : Told). t.1.0) parts in
    let there : IsMetFor path d.by e.prefix.scope = subst (λ x. IsMetFor path x e.prefix.scope) (sym by) g in
    let ids : told_by path d.prefix (Some d.by) ≡ told_by path e.prefix (Some d.by) = ap (λ (t : Told). t.0) parts ∙ ap (λ x. told_by path e.prefix (Some x)) (sym by) in
    let prefix = fixed-prefix-same path d.by d.prefix e.prefix h there text ids in
    λ i. record { prefix = prefix i; by = by i }

first-same : (path : List (List ℕ)) (p q : Prefix) → is_within (scope_of path) p.scope ≡ true → is_within (scope_of path) q.scope ≡ true
    → told_at path (Some (Appeared p)) ≡ told_at path (Some (Appeared q)) → p ≡ q
first-same path p q h g same =
    let parts = some_same same in
    prefix-same path p q (version_text None) h g (ap (λ (t : Told). t.1.0) parts) (ap (λ (t : Told). t.0) parts)

answers-same : (path : List (List ℕ)) (a b : Option Answer) → IsOfId path a → IsOfId path b → told_at path a ≡ told_at path b → a ≡ b
answers-same path None None h g e = refl
answers-same path None (Some (Appeared q)) h g e = absurd (none_some e)
answers-same path None (Some (Identified d)) h g e = absurd (none_some e)
answers-same path None (Some (Open s)) h g e = absurd g
answers-same path None (Some (Known f)) h g e = absurd g
answers-same path None (Some Used) h g e = absurd g
answers-same path None (Some (Count n)) h g e = absurd g
answers-same path None (Some (InForce p)) h g e = absurd g
answers-same path None (Some (Prefixed t)) h g e = absurd g
answers-same path (Some (Appeared p)) None h g e = absurd (some_none e)
answers-same path (Some (Appeared p)) (Some (Appeared q)) h g e = ap (λ r. Some (Appeared r)) (first-same path p q h g e)
answers-same path (Some (Appeared p)) (Some (Identified d)) h g e = absurd (none_some (ap (λ (t : Told). t.1.1) (some_same e)))
answers-same path (Some (Appeared p)) (Some (Open s)) h g e = absurd g
answers-same path (Some (Appeared p)) (Some (Known f)) h g e = absurd g
answers-same path (Some (Appeared p)) (Some Used) h g e = absurd g
answers-same path (Some (Appeared p)) (Some (Count n)) h g e = absurd g
answers-same path (Some (Appeared p)) (Some (InForce q)) h g e = absurd g
answers-same path (Some (Appeared p)) (Some (Prefixed t)) h g e = absurd g
answers-same path (Some (Identified d)) None h g e = absurd (some_none e)
answers-same path (Some (Identified d)) (Some (Appeared q)) h g e = absurd (some_none (ap (λ (t : Told). t.1.1) (some_same e)))
answers-same path (Some (Identified d)) (Some (Identified f)) h g e = ap (λ r. Some (Identified r)) (fixed-same path d f h g e)
answers-same path (Some (Identified d)) (Some (Open s)) h g e = absurd g
answers-same path (Some (Identified d)) (Some (Known f)) h g e = absurd g
answers-same path (Some (Identified d)) (Some Used) h g e = absurd g
answers-same path (Some (Identified d)) (Some (Count n)) h g e = absurd g
answers-same path (Some (Identified d)) (Some (InForce p)) h g e = absurd g
answers-same path (Some (Identified d)) (Some (Prefixed t)) h g e = absurd g
answers-same path (Some (Open s)) b h g e = absurd h
answers-same path (Some (Known f)) b h g e = absurd h
answers-same path (Some Used) b h g e = absurd h
answers-same path (Some (Count n)) b h g e = absurd h
answers-same path (Some (InForce p)) b h g e = absurd h
answers-same path (Some (Prefixed t)) b h g e = absurd h

pub identities-same : (facts others : List UnitFacts) (path : List (List ℕ))
    → told_at path (answers facts (IdOf path)) ≡ told_at path (answers others (IdOf path))
    → answers facts (IdOf path) ≡ answers others (IdOf path)
identities-same facts others path same =
    answers-same path (answers facts (IdOf path)) (answers others (IdOf path)) (answers-of-id facts path) (answers-of-id others path) same
