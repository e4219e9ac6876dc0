-- A list is cut in one way.
use Rattle.std.proofs.Common.{◌≡◌, ◌≢◌, ◌∙◌, Bool, true, false, List, [], ◌∷◌, ◌++◌, refl, sym, ap, subst, append_assoc}
use Rattle.std.proofs.lemmas.List.{append-nil, same_from_push}
use Rattle.idl_unit.specs.Cut.{parts, parts_after}
use Rattle.idl_unit.specs.Parts.{AreParts, IsCutInto, IsPart, joined}
use Rattle.idl_unit.proofs.CutLemmas.{parts_after-more, pending-end, pending-open}

push-some : {X : Type 0} (front : List X) (x : X) → front ++ x ∷ [] ≢ []
push-some [] x e = cc
push-some (y ∷ front) x e = cc

-- the first part of a list is the one that ends first
pub part-first : {X : Type 0} (ends : List X → List X → Bool) (front back rest : List X) → back ≢ [] → ends (front ++ back) rest ≡ true
    → ((a b : List X) → back ≡ a ++ b → a ≢ [] → b ≢ [] → ends (front ++ a) (b ++ rest) ≡ false)
    → parts_after ends front (back ++ rest) ≡ (front ++ back) ∷ parts ends rest
part-first ends front [] rest some end none = absurd (some refl)
part-first ends front (x ∷ []) rest some end none = parts_after-more ends front x rest ∙ pending-end ends (front ++ x ∷ []) rest (push-some front x) end
part-first ends front (x ∷ y ∷ back) rest some end none =
    let same : (front ++ x ∷ []) ++ y ∷ back ≡ front ++ x ∷ y ∷ back = append_assoc front (x ∷ []) (y ∷ back) in
    parts_after-more ends front x (y ∷ back ++ rest)
    ∙ pending-open ends (front ++ x ∷ []) (y ∷ back ++ rest) (none (x ∷ []) (y ∷ back) refl (λ e. cc) (λ e. cc))
    ∙ part-first ends (front ++ x ∷ []) (y ∷ back) rest (λ e. cc) (ap (λ f. ends f rest) same ∙ end)
    (λ a b e sa sb. ap (λ f. ends f (b ++ rest)) (append_assoc front (x ∷ []) a) ∙ none (x ∷ a) b (ap (λ l. x ∷ l) e) (λ e. cc) sb)
    ∙ ap (λ f. f ∷ parts ends rest) same

none_left : {X : Type 0} (ends : List X → List X → Bool) → parts ends [] ≡ []
unfolding parts_after
none_left ends = refl

parts-joined : {X : Type 0} (ends : List X → List X → Bool) (ps : List (List X)) → AreParts ends ps → parts ends (joined ps) ≡ ps
parts-joined ends [] h = none_left ends
parts-joined ends (p ∷ ps) h = part-first ends [] p (joined ps) h.0.some h.0.end h.0.first ∙ ap (λ l. p ∷ l) (parts-joined ends ps h.1)

-- what a list is cut into are its parts
pub only-parts : {X : Type 0} (ends : List X → List X → Bool) (list : List X) (ps : List (List X)) → IsCutInto ends list ps → ps ≡ parts ends list
only-parts ends list ps h = sym (parts-joined ends ps h.1) ∙ ap (parts ends) h.0

record EndsIn {X : Type 0} (x : X) (front a b : List X) : Type 0 where
  init : List X
  is : b ≡ init ++ x ∷ []
  before : front ≡ a ++ init

record Last {X : Type 0} (b : List X) : Type 0 where
  init : List X
  last : X
  is : b ≡ init ++ last ∷ []

last_of : {X : Type 0} (y : X) (b : List X) → Last (y ∷ b)
last_of y [] = record { init = []; last = y; is = refl }
last_of y (z ∷ b) = let l = last_of z b in record { init = y ∷ l.init; last = l.last; is = ap (λ r. y ∷ r) l.is }

split-push : {X : Type 0} (x : X) (front a b : List X) → front ++ x ∷ [] ≡ a ++ b → b ≢ [] → EndsIn x front a b
split-push x front a [] e some = absurd (some refl)
split-push x front a (y ∷ b) e some =
    let l = last_of y b in
    let same = same_from_push front (a ++ l.init) x l.last (e ∙ ap (λ r. a ++ r) l.is ∙ sym (append_assoc a l.init (l.last ∷ []))) in
    record { init = l.init; is = l.is ∙ ap (λ z. l.init ++ z ∷ []) (sym same.1); before = same.0 }

-- nothing that `front` begins with is a part
abbrev IsOpen : {X : Type 0} → (List X → List X → Bool) → List X → List X → Type 0
IsOpen {X} ends front rest = (a b : List X) → front ≡ a ++ b → a ≢ [] → ends a (b ++ rest) ≡ false

open-before : {X : Type 0} (ends : List X → List X → Bool) (front : List X) (x : X) (rest : List X) → IsOpen ends front (x ∷ rest)
    → (a b : List X) → front ++ x ∷ [] ≡ a ++ b → a ≢ [] → b ≢ [] → ends a (b ++ rest) ≡ false
open-before ends front x rest none a b e sa sb =
    let s = split-push x front a b e sb in
    ap (λ r. ends a (r ++ rest)) s.is ∙ ap (ends a) (append_assoc s.init (x ∷ []) rest) ∙ none a s.init s.before sa

open-push : {X : Type 0} (ends : List X → List X → Bool) (front : List X) (x : X) (rest : List X) → IsOpen ends front (x ∷ rest) → ends (front ++ x ∷ []) rest ≡ false
    → (a b : List X) → front ++ x ∷ [] ≡ a ++ b → a ≢ [] → ends a (b ++ rest) ≡ false
open-push ends front x rest none goes a [] e sa = ap (λ f. ends f rest) (sym (e ∙ append-nil a)) ∙ goes
open-push ends front x rest none goes a (y ∷ b) e sa = open-before ends front x rest none a (y ∷ b) e sa (λ e. cc)

part-here : {X : Type 0} (ends : List X → List X → Bool) (front : List X) (x : X) (rest : List X) → IsOpen ends front (x ∷ rest) → ends (front ++ x ∷ []) rest ≡ true
    → (after : List X) → after ≡ rest → IsPart ends (front ++ x ∷ []) after
part-here ends front x rest none stops after is = record {
  some = push-some front x;
  end = ap (ends (front ++ x ∷ [])) is ∙ stops;
  first = λ a b e sa sb. ap (λ r. ends a (b ++ r)) is ∙ open-before ends front x rest none a b e sa sb;
}

cut-here : {X : Type 0} (ends : List X → List X → Bool) (front : List X) (x : X) (rest : List X) → IsOpen ends front (x ∷ rest) → ends (front ++ x ∷ []) rest ≡ true
    → IsCutInto ends rest (parts ends rest) → IsCutInto ends (front ++ x ∷ rest) (parts_after ends front (x ∷ rest))
cut-here ends front x rest none end h =
    let part = front ++ x ∷ [] in
    let is : part ∷ parts ends rest ≡ parts_after ends front (x ∷ rest) =
    sym (parts_after-more ends front x rest ∙ pending-end ends part rest (push-some front x) end) in
    subst (IsCutInto ends (front ++ x ∷ rest)) is (
      ap (λ r. part ++ r) h.0 ∙ append_assoc front (x ∷ []) rest,
      (part-here ends front x rest none end (joined (parts ends rest)) h.0, h.1),
    )

cut-later : {X : Type 0} (ends : List X → List X → Bool) (front : List X) (x : X) (rest : List X) → ends (front ++ x ∷ []) rest ≡ false
    → IsCutInto ends ((front ++ x ∷ []) ++ rest) (parts_after ends (front ++ x ∷ []) rest) → IsCutInto ends (front ++ x ∷ rest) (parts_after ends front (x ∷ rest))
cut-later ends front x rest goes h =
    let is : parts_after ends (front ++ x ∷ []) rest ≡ parts_after ends front (x ∷ rest) =
    sym (parts_after-more ends front x rest ∙ pending-open ends (front ++ x ∷ []) rest goes) in
    subst (IsCutInto ends (front ++ x ∷ rest)) is (h.0 ∙ append_assoc front (x ∷ []) rest, h.1)

cut-item : {X : Type 0} (ends : List X → List X → Bool) (front : List X) (x : X) (rest : List X) → IsOpen ends front (x ∷ rest)
    → IsCutInto ends rest (parts ends rest)
    → (IsOpen ends (front ++ x ∷ []) rest → IsCutInto ends ((front ++ x ∷ []) ++ rest) (parts_after ends (front ++ x ∷ []) rest))
    → (b : Bool) → ends (front ++ x ∷ []) rest ≡ b → IsCutInto ends (front ++ x ∷ rest) (parts_after ends front (x ∷ rest))
cut-item ends front x rest none here later true e = cut-here ends front x rest none e here
cut-item ends front x rest none here later false e = cut-later ends front x rest e (later (open-push ends front x rest none e))

cut-end : {X : Type 0} (ends : List X → List X → Bool) (front : List X) → ((part : List X) → ends part [] ≡ true) → IsOpen ends front [] → IsCutInto ends (front ++ []) (parts_after ends front [])
unfolding parts_after
cut-end ends [] total none = (refl, tt)
cut-end ends (x ∷ front) total none =
    let end : ends (x ∷ front) [] ≡ true = total (x ∷ front) in
    let goes : ends (x ∷ front) [] ≡ false = none (x ∷ front) [] (sym (append-nil (x ∷ front))) (λ e. cc) in
    absurd (cc)

empty-open : {X : Type 0} (ends : List X → List X → Bool) (rest : List X) → (a b : List X) → [] ≡ a ++ b → a ≢ [] → ends a (b ++ rest) ≡ false
empty-open ends rest [] b e some = absurd (some refl)
empty-open ends rest (y ∷ a) b e some = cc

cut-parts : {X : Type 0} (ends : List X → List X → Bool) → ((part : List X) → ends part [] ≡ true) → (front rest : List X) → IsOpen ends front rest
    → IsCutInto ends (front ++ rest) (parts_after ends front rest)
cut-parts ends total front [] none = cut-end ends front total none
cut-parts ends total front (x ∷ rest) none =
    cut-item ends front x rest none (cut-parts ends total [] rest (empty-open ends rest)) (cut-parts ends total (front ++ x ∷ []) rest) (ends (front ++ x ∷ []) rest) refl

-- a list is cut into its parts, where each ends at the end of the list
pub are-parts : {X : Type 0} (ends : List X → List X → Bool) → ((part : List X) → ends part [] ≡ true) → (list : List X) → IsCutInto ends list (parts ends list)
are-parts ends total list = cut-parts ends total [] list (empty-open ends list)
