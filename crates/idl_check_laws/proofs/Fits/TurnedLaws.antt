-- The closing of an interface keeps what facts keep: its list is that of what is reached from it.
use Rattle.std.proofs.Common.{◌≡◌, ◌⊎◌, ◌∙◌, ℕ, ◌≤◌, ◌<◌, suc, Bool, true, false, cond, List, [], ◌∷◌, length, Option, Some, None, refl, sym, ap, subst, arith, inl, inr}
use Rattle.std.specs.Prelude.{◌≢◌, ◌||◌, Contains}
use Rattle.idl_check_laws.proofs.Fits.ReachedLaws.{AreWhole, IsClosed, IsWhole, IsWithin, Keeps, Names, Place, kept-at, kept-closed, kept-whole, only, own, there, through-back, through-on}
use Rattle.idl_check_laws.proofs.Fits.SettledLaws.{Added, AreOpened, IsDefined, IsHeld, IsKept, IsNamed, IsOpened, IsPlace, IsScope, IsUnder, Stood, Was, closed-place, name_same, over, path_same, stood}
use Rattle.idl_check_laws.specs.Closing.{HasOperation}
use Rattle.idl_lex.specs.kinds.Keywords.{folded}
use Rattle.idl_scope.proofs.Constructors.{some_same, none_some}
use Rattle.idl_env.proofs.Membership.{Contains-IsIn, IsIn, IsIn-Contains, IsIn-one}
use Rattle.idl_env.proofs.AnswerLaws.QueueLemmas.{list_any-joined}
use Rattle.idl_scope.proofs.LookupLaws.Walked.{among, among-IsIn}
use Rattle.idl_scope.proofs.Worlds.{addition_at-Some, declares_same}
use Rattle.idl_env.specs.keys.Digested.{key_equiv}
use Rattle.idl_entity.specs.Entity.{is_operation}
use Rattle.idl_env.specs.Facts.{answer_of, entity_in, entity_key, gathered, inherited, joined, operations_of}
use Rattle.idl_scope.specs.Meaning.{Own, Through, Up, bases_at, bases_of}
use Rattle.idl_entity.specs.Path.{name_of, scope_of}
use Rattle.idl_env.specs.declared.additions.addition.Addition.TheVariants.{Declares}
use Rattle.idl_env.specs.declared.answering.answer.Answer.{Answer}
use Rattle.idl_env.specs.declared.answering.answer.Scope.{Scope}
use Rattle.idl_entity.specs.declared.entity.Entity.{Entity}
use Rattle.idl_env.specs.declared.keys.key.Key.{Key}
use Rattle.idl_env.specs.declared.keys.key.Key.TheVariants.{Declared}
use Rattle.idl_entity.specs.declared.kind.Kind.TheVariants.{Interface, Module}
use Rattle.idl_entity.specs.declared.kind.Stage.TheVariants.{Ahead, Open, Complete}

-- ---- what bases have

or-either : (a b : Bool) → (a || b) ≡ true → (a ≡ true) ⊎ (b ≡ true)
or-either true b h = inl refl
or-either false b h = inr h

or-left : (a b : Bool) → a ≡ true → (a || b) ≡ true
or-left true b h = refl
or-left false b h = cc

or-right : (a b : Bool) → b ≡ true → (a || b) ≡ true
or-right true b h = refl
or-right false b h = h

pub joined-out : (p : Place) (found paths : List Place) → IsIn p (joined found paths) → IsIn p found ⊎ IsIn p paths
joined-out p found paths i =
    elim (or-either (among p found) (among p paths) (sym (list_any-joined p found paths) ∙ (among-IsIn p (joined found paths)).1 i)) as (λ _. IsIn p found ⊎ IsIn p paths) [
      | inl h ↦ inl ((among-IsIn p found).0 h)
      | inr h ↦ inr ((among-IsIn p paths).0 h)
    ]

joined-left : (p : Place) (found paths : List Place) → IsIn p found → IsIn p (joined found paths)
joined-left p found paths i = (among-IsIn p (joined found paths)).0 (list_any-joined p found paths ∙ or-left (among p found) (among p paths) ((among-IsIn p found).1 i))

joined-right : (p : Place) (found paths : List Place) → IsIn p paths → IsIn p (joined found paths)
joined-right p found paths i = (among-IsIn p (joined found paths)).0 (list_any-joined p found paths ∙ or-right (among p found) (among p paths) ((among-IsIn p paths).1 i))

module _ (answers : Key → Option Answer) where
  -- the operations and attributes of what stands at a path
  abbrev listed : Place → List Place
  listed b = operations_of (entity_in (answers (entity_key b)))

  abbrev IsListed : Place → List Place → Type 0
  IsListed p bases = (b : Place) × IsIn b bases × IsIn p (listed b)

  gathered-out : (p : Place) (found bases : List Place) → IsIn p (gathered answers found bases) → IsIn p found ⊎ IsListed p bases
  gathered-out p found [] i = inl i
  gathered-out p found (b ∷ bases) i = by_side (gathered-out p (joined found (listed b)) bases i)
    where
      by_first : IsIn p found ⊎ IsIn p (listed b) → IsIn p found ⊎ IsListed p (b ∷ bases)
      by_first (inl h) = inl h
      by_first (inr h) = inr (b, inl refl, h)

      by_side : IsIn p (joined found (listed b)) ⊎ IsListed p bases → IsIn p found ⊎ IsListed p (b ∷ bases)
      by_side (inl h) = by_first (joined-out p found (listed b) h)
      by_side (inr h) = inr (h.0, inr h.1, h.2)

  gathered-found : (p : Place) (found bases : List Place) → IsIn p found → IsIn p (gathered answers found bases)
  gathered-found p found [] i = i
  gathered-found p found (b ∷ bases) i = gathered-found p (joined found (listed b)) bases (joined-left p found (listed b) i)

  gathered-in : (p : Place) (found bases : List Place) (c : Place) → IsIn c bases → IsIn p (listed c) → IsIn p (gathered answers found bases)
  gathered-in p found [] c i j = absurd i
  gathered-in p found (b ∷ bases) c (inl is) j = gathered-found p (joined found (listed b)) bases (joined-right p found (listed b) (subst (λ d. IsIn p (listed d)) (sym is) j))
  gathered-in p found (b ∷ bases) c (inr i) j = gathered-in p (joined found (listed b)) bases c i j

  pub inherited-out : (p : Place) (bases : List Place) → IsIn p (inherited answers bases) → IsListed p bases
  inherited-out p [] i = absurd i
  inherited-out p (b ∷ bases) i = by_side (gathered-out p (listed b) bases i)
    where
      by_side : IsIn p (listed b) ⊎ IsListed p bases → IsListed p (b ∷ bases)
      by_side (inl h) = (b, inl refl, h)
      by_side (inr h) = (h.0, inr h.1, h.2)

  pub inherited-in : (p : Place) (bases : List Place) (c : Place) → IsIn c bases → IsIn p (listed c) → IsIn p (inherited answers bases)
  inherited-in p [] c i j = absurd i
  inherited-in p (b ∷ bases) c (inl is) j = gathered-found p (listed b) bases (subst (λ d. IsIn p (listed d)) (sym is) j)
  inherited-in p (b ∷ bases) c (inr i) j = gathered-in p (listed b) bases c i j

-- ---- an interface that closes, at its path

interface-no : (e : Entity) → e.kind ≡ Interface → is_operation e ≡ true → ⊥
interface-no e kind h = let no : is_operation e ≡ false = ap (λ k. is_operation (record e { kind = k })) kind in let z : true ≡ false = sym h ∙ no in cc

-- the next open scope is a place
next-place : (D : Names) (t : Scope) (outer : List Scope) (rest : List (List Place)) → AreOpened D (t ∷ outer) rest → IsPlace D t.path
next-place D t outer [] h = absurd h
next-place D t outer (paths ∷ rest) h = h.0.place

one-path : (c b : Place) → Contains (c ∷ []) b → c ≡ b
one-path c b i = IsIn-one c b (IsIn-Contains b (c ∷ []) i)

-- more is reached through more bases
through-more : (A : Key → Option Answer) (n : List ℕ) (bases more : List Place) {x : Entity} → ((b : Place) → Contains bases b → Contains more b) → Through A n bases x → Through A n more x
through-more A n bases more within (Own b i h) = Own b (within b i) h
through-more A n bases more within (Up b i none t) = Up b (within b i) none t

module _ (D : Names) (s t : Scope) (outer : List Scope) (paths : List Place) (rest : List (List Place)) (k : IsKept D (s ∷ t ∷ outer) (paths ∷ rest))
    (e : Entity) (stands : there D s.path ≡ Some e) (at : e.path ≡ s.path) (interface : e.kind ≡ Interface)
    (f : Entity) (path : f.path ≡ e.path) (kind : f.kind ≡ e.kind) (complete : f.stage ≡ Complete) (bases : f.bases ≡ e.bases)
    (of_base : (p : Place) (b : Place) → Contains e.bases b → IsIn p (operations_of (there D b)) → IsIn p f.operations)
    (of_own : (p : Place) → IsIn p paths → IsIn p f.operations)
    (none_else : (p : Place) → IsIn p f.operations → ((b : Place) × Contains e.bases b × IsIn p (operations_of (there D b))) ⊎ IsIn p paths) where
  abbrev after : Names
  after = over (Declares f ∷ []) D

  opened : IsOpened D s paths
  opened = k.opened.0

  held : IsHeld D e paths
  held = opened.held e stands at interface

  stands-own : there D e.path ≡ Some e
  stands-own = ap (there D) at ∙ stands

  named : IsNamed e.path
  named = (k.named (folded (name_of s.path)) (scope_of s.path) e stands).0

  not-closed : IsClosed D e → ⊥
  not-closed c = let z : Open ≡ Complete = sym held.stage ∙ c.stage in cc

  only-one : (x : Entity) → IsIn (Declares x) (Declares f ∷ []) → f ≡ x
  only-one x (inl h) = declares_same f x h
  only-one x (inr h) = absurd h

  -- what stands under a name: what stood there, or the closed interface where the open one stood
  data Turned (n : List ℕ) (q : Place) : Type 0 where
    Here : own D n q ≡ Some e → own after n q ≡ Some f → q ≡ scope_of e.path → Turned n q
    Else : own after n q ≡ own D n q → Turned n q

  turned : (n : List ℕ) (q : Place) → Turned n q
  turned n q = by_stood (stood D (Declares f ∷ []) n q)
    where
      by_stood : Stood D (Declares f ∷ []) n q → Turned n q
      by_stood (Was same) = Else same
      by_stood (Added x i key is) =
          let one : f ≡ x = only-one x (addition_at-Some (Declares f ∷ []) (entity_key x.path) (Declares x) i).0 in
          let key_f : Declared n q ≡ entity_key e.path = key ∙ ap (λ (z : Entity). entity_key z.path) (sym one) ∙ ap entity_key path in
          let name : n ≡ folded (name_of e.path) = name_same n (folded (name_of e.path)) q (scope_of e.path) key_f in
          let scope : q ≡ scope_of e.path = path_same n (folded (name_of e.path)) q (scope_of e.path) key_f in
          Here ((λ j. own D (name j) (scope j)) ∙ stands-own) (is ∙ ap Some (sym one)) scope

  -- the scope around it is that of the next open one
  around : scope_of e.path ≡ t.path
  around = ap scope_of (at ∙ k.opened.1.0.1)

  longer : length s.path ≡ suc (length t.path)
  longer = ap length k.opened.1.0.1

  closes-keeps : Keeps D after
  closes-keeps = record { stands = λ g c. by_stands g c (turned (folded (name_of g.path)) (scope_of g.path)); within = λ g c n. by_within g c n (turned n g.path) }
    where
      by_stands : (g : Entity) → IsClosed D g → Turned (folded (name_of g.path)) (scope_of g.path) → there after g.path ≡ Some g
      by_stands g c (Else same) = same ∙ c.stands
      by_stands g c (Here was now q) = absurd (not-closed (subst (IsClosed D) (some_same (sym c.stands ∙ was)) c))

      by_within : (g : Entity) → IsClosed D g → (n : List ℕ) → Turned n g.path → own after n g.path ≡ own D n g.path
      by_within g c n (Else same) = same
      by_within g c n (Here was now q) =
          absurd (closed-place D g (k.named (folded (name_of g.path)) (scope_of g.path) g c.stands).0 c (subst (IsPlace D) (sym (q ∙ around)) (next-place D t outer rest k.opened.1.1)))

  -- it is whole: its own
  new-own : (n : List ℕ) (x : Entity) → own after n f.path ≡ Some x → is_operation x ≡ true → Contains f.operations x.path
  new-own n x h operation = by_turned (turned n f.path)
    where
      by_turned : Turned n f.path → Contains f.operations x.path
      by_turned (Else same) = Contains-IsIn x.path f.operations (of_own x.path (held.mine n x (ap (λ q. own D n q) (sym path) ∙ sym same ∙ h) operation))
      by_turned (Here was now q) =
          let one : f ≡ x = some_same (sym now ∙ h) in
          absurd (interface-no f (kind ∙ interface) (ap is_operation one ∙ operation))

  -- its bases
  new-base : (b : Place) → Contains f.bases b → IsWithin after f b
  new-base b i =
      let j = subst (λ bs. Contains bs b) bases i in
      let c = held.base b j in
      let there_b : there D b ≡ Some c.0 = ap (there D) (sym c.2) ∙ c.1.stands in (
        c.0,
        kept-closed D after closes-keeps c.0 c.1,
        c.2,
        λ p l. Contains-IsIn p f.operations (of_base p b j (subst (λ o. IsIn p (operations_of o)) (sym there_b) (IsIn-Contains p c.0.operations l))),
      )

  new-stands : there after f.path ≡ Some f
  new-stands = ap (λ b. entity_in (elim (cond b (Some (Declares f)) None) as (λ _. Option Answer) [ None ↦ D (folded (name_of f.path)) (scope_of f.path) | Some a ↦ Some (answer_of a) ])) (key_equiv.refl (entity_key f.path))

  own-stays : (n : List ℕ) (x : Entity) → own D n f.path ≡ Some x → is_operation x ≡ true → own after n f.path ≡ Some x
  own-stays n x h operation = by_turned (turned n f.path)
    where
      by_turned : Turned n f.path → own after n f.path ≡ Some x
      by_turned (Else same) = same ∙ h
      by_turned (Here was now q) = absurd (interface-no e interface (ap is_operation (some_same (sym was ∙ h)) ∙ operation))

  none-stays : (n : List ℕ) (q : Place) → own D n q ≡ None → own after n q ≡ None
  none-stays n q h = by_turned (turned n q)
    where
      by_turned : Turned n q → own after n q ≡ None
      by_turned (Else same) = same ∙ h
      by_turned (Here was now scope) = absurd (none_some (sym h ∙ was))

  new-bases : bases_at (only after) f.path ≡ e.bases
  new-bases = ap bases_of new-stands ∙ ap (λ st. bases_of (Some (record f { stage = st }))) complete ∙ bases

  -- and what it has is reached
  new-told : (p : Place) → Contains f.operations p → HasOperation (only after) f.path p
  new-told p i = by_side (none_else p (IsIn-Contains p f.operations i))
    where
      here : Contains (f.path ∷ []) f.path
      here = Contains-IsIn f.path (f.path ∷ []) (inl refl)

      by_side : ((b : Place) × Contains e.bases b × IsIn p (operations_of (there D b))) ⊎ IsIn p paths → HasOperation (only after) f.path p
      by_side (inr j) =
          let u = held.told p j in
          (u.0, u.1, Own f.path here (own-stays u.0 u.1 (ap (λ q. own D u.0 q) path ∙ u.2) u.3), u.3, u.4)
      by_side (inl r) =
          let c = held.base r.0 r.1 in
          let there_b : there D r.0 ≡ Some c.0 = ap (there D) (sym c.2) ∙ c.1.stands in
          let u = (k.whole c.0 c.1).told p (Contains-IsIn p c.0.operations (subst (λ o. IsIn p (operations_of o)) there_b r.2)) in
          let through : Through (only D) u.0 e.bases u.1 =
          through-more (only D) u.0 (c.0.path ∷ []) e.bases (λ b i. subst (Contains e.bases) (sym c.2 ∙ one-path c.0.path b i) r.1) u.2 in
          let none : own D u.0 e.path ≡ None = held.apart u.0 u.1 through u.3 in
          let on = through-on D after closes-keeps k.whole u.0 held.base through in
          (u.0, u.1, Up f.path here (none-stays u.0 f.path (ap (λ q. own D u.0 q) path ∙ none)) (subst (λ bs. Through (only after) u.0 bs u.1) (sym new-bases) on), u.3, u.4)

  new-whole : IsWhole after f
  new-whole = record { own = new-own; base = new-base; told = new-told }

  whole-after : AreWhole after
  whole-after g c = by_turned (turned (folded (name_of g.path)) (scope_of g.path))
    where
      by_turned : Turned (folded (name_of g.path)) (scope_of g.path) → IsWhole after g
      by_turned (Else same) = kept-whole D after closes-keeps k.whole g (record { stands = sym same ∙ c.stands; kind = c.kind; stage = c.stage })
      by_turned (Here was now q) = subst (IsWhole after) (some_same (sym now ∙ c.stands)) new-whole

  named-after : (n : List ℕ) (q : Place) (x : Entity) → own after n q ≡ Some x → IsNamed x.path × (n ≡ folded (name_of x.path)) × (q ≡ scope_of x.path)
  named-after n q x h = by_turned (turned n q)
    where
      by_turned : Turned n q → IsNamed x.path × (n ≡ folded (name_of x.path)) × (q ≡ scope_of x.path)
      by_turned (Else same) = k.named n q x (sym same ∙ h)
      by_turned (Here was now scope) =
          let same : e.path ≡ x.path = sym path ∙ ap (λ (z : Entity). z.path) (some_same (sym now ∙ h)) in
          subst (λ p. IsNamed p × (n ≡ folded (name_of p)) × (q ≡ scope_of p)) same (k.named n q e was)

  -- what is defined at a path is so, or is the closed interface
  defined-after : (q : Place) → IsScope IsDefined D q → IsScope IsDefined after q
  defined-after q (inl global) = inl global
  defined-after q (inr (inl nameless)) = inr (inl nameless)
  defined-after q (inr (inr y)) = inr (inr (by_turned (turned (folded (name_of q)) (scope_of q))))
    where
      by_turned : Turned (folded (name_of q)) (scope_of q) → (z : Entity) × (there after q ≡ Some z) × (z.path ≡ q) × IsDefined z
      by_turned (Else same) = (y.0, same ∙ y.1, y.2, y.3)
      by_turned (Here was now scope) =
          let one : y.0 ≡ e = some_same (sym y.1 ∙ was) in
          (f, now, path ∙ ap (λ (z : Entity). z.path) (sym one) ∙ y.2, λ ahead. let z : Complete ≡ Ahead = sym complete ∙ ahead in cc)

  placed-after : (n : List ℕ) (q : Place) (x : Entity) → own after n q ≡ Some x → IsScope IsDefined after q
  placed-after n q x h = by_turned (turned n q)
    where
      by_turned : Turned n q → IsScope IsDefined after q
      by_turned (Else same) = defined-after q (k.placed n q x (sym same ∙ h))
      by_turned (Here was now scope) = defined-after q (k.placed n q e was)

  -- ---- the scopes outward

  shorter : (u : Scope) → length u.path < length s.path → u.path ≡ s.path → ⊥
  shorter u less same = let l = ap length same in let none : ⊥ = omega (arith, less, l) in none

  module _ (u : Scope) (os : List Place) (less : length u.path < length s.path) (o : IsOpened D u os) where
    place-after : IsPlace D u.path → IsPlace after u.path
    place-after (inl global) = inl global
    place-after (inr (inl nameless)) = inr (inl nameless)
    place-after (inr (inr y)) = by_turned (turned (folded (name_of u.path)) (scope_of u.path))
      where
        by_turned : Turned (folded (name_of u.path)) (scope_of u.path) → IsPlace after u.path
        by_turned (Else same) = inr (inr (y.0, same ∙ y.1, y.2, y.3))
        by_turned (Here was now scope) =
            absurd (shorter u less (sym y.2 ∙ ap (λ (z : Entity). z.path) (some_same (sym y.1 ∙ was)) ∙ at))

    was-there : (g : Entity) → there after u.path ≡ Some g → g.path ≡ u.path → there D u.path ≡ Some g
    was-there g h is = by_turned (turned (folded (name_of u.path)) (scope_of u.path))
      where
        by_turned : Turned (folded (name_of u.path)) (scope_of u.path) → there D u.path ≡ Some g
        by_turned (Else same) = sym same ∙ h
        by_turned (Here was now scope) = absurd (shorter u less (sym is ∙ ap (λ (z : Entity). z.path) (some_same (sym h ∙ now)) ∙ path ∙ at))

    held-after : (g : Entity) → IsHeld D g os → IsHeld after g os
    held-after g w = record {
      stage = w.stage;
      mine = λ n x h operation. by_own n x h operation (turned n g.path);
      base = λ b i. kept-at D after closes-keeps b (w.base b i);
      told = λ p i. let r = w.told p i in (r.0, r.1, by_told r.0 r.1 r.2 r.3 (turned r.0 g.path), r.3, r.4);
      apart = λ n x through operation. none-stays n g.path (w.apart n x (through-back D after closes-keeps k.whole n w.base through) operation);
    }
      where
        by_own : (n : List ℕ) (x : Entity) → own after n g.path ≡ Some x → is_operation x ≡ true → Turned n g.path → IsIn x.path os
        by_own n x h operation (Else same) = w.mine n x (sym same ∙ h) operation
        by_own n x h operation (Here was now scope) = absurd (interface-no f (kind ∙ interface) (ap is_operation (some_same (sym now ∙ h)) ∙ operation))

        by_told : (n : List ℕ) (x : Entity) → own D n g.path ≡ Some x → is_operation x ≡ true → Turned n g.path → own after n g.path ≡ Some x
        by_told n x h operation (Else same) = same ∙ h
        by_told n x h operation (Here was now scope) = absurd (interface-no e interface (ap is_operation (some_same (sym was ∙ h)) ∙ operation))

    opened-on : IsOpened after u os
    opened-on = record {
      place = place-after o.place;
      kind = λ g h is. o.kind g (was-there g h is) is;
      held = λ g h is interface. held-after g (o.held g (was-there g h is) is interface);
    }

  outer-on : (us : List Scope) (os : List (List Place)) (v : Scope) → IsUnder v us → length v.path ≤ length s.path → AreOpened D us os → AreOpened after us os
  outer-on [] os v under most h = tt
  outer-on (u ∷ us) [] v under most h = h
  outer-on (u ∷ us) (ps ∷ os) v under most h =
      let l : length v.path ≡ suc (length u.path) = ap length under.1 in
      (opened-on u ps (omega (arith, l, most)) h.0, (h.1.0, outer-on us os u h.1.0 (omega (arith, l, most)) h.1.1))

  modules-after : (n : List ℕ) (q : Place) (x : Entity) → own after n q ≡ Some x → x.kind ≡ Module → x.stage ≢ Ahead
  modules-after n q x h = by_turned (turned n q)
    where
      by_turned : Turned n q → x.kind ≡ Module → x.stage ≢ Ahead
      by_turned (Else same) = k.modules n q x (sym same ∙ h)
      by_turned (Here was now scope) = subst (λ (z : Entity). z.kind ≡ Module → z.stage ≢ Ahead) (some_same (sym now ∙ h)) (λ m ahead. let z : Complete ≡ Ahead = sym complete ∙ ahead in cc)

  -- so what is kept, is kept as it closes
  pub turned-kept : IsKept after (t ∷ outer) rest
  turned-kept = record { named = named-after; placed = placed-after; whole = whole-after; opened = outer-on (t ∷ outer) rest s k.opened.1.0 (omega arith) k.opened.1.1; some = λ z. cc; modules = modules-after }
