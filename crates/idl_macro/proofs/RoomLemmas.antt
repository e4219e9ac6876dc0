-- More room for replacements in one another than there are turns left changes nothing.
use Rattle.std.proofs.Common.{◌≡◌, ◌≢◌, ℕ, zero, suc, ◌-◌, ◌<◌, ◌≤◌, ◌⊎◌, inl, inr, Bool, true, false, nat_eq, if◌then◌else◌, List, [], ◌∷◌, Option, None, Some, refl, sym, ap, ◌∙◌, arith, subst}
use Rattle.idl_memo.specs.Progress.{after_item, after_key}
use Rattle.idl_memo.proofs.ProgressLaws.{progress_after-over}
use Rattle.idl_memo.specs.Query.{Done, Ask, Tell, outcome}
use Rattle.idl_event.specs.Items.{rules, turns_left}
use Rattle.idl_event.specs.Key.{key_eq}
use Rattle.idl_event.specs.Expanding.{Reached, Expanding, reached}
use Rattle.idl_lex.specs.tokens.Tokens.{Token}
use Rattle.idl_macro.specs.Macros.{Definitions}
use Rattle.idl_macro.specs.Replace.{each, replaced, replacement}
use Rattle.idl_event.specs.declared.told.allowance.Allowance.{Allowance}
use Rattle.idl_event.specs.declared.told.event.Item.{Item}
use Rattle.idl_event.specs.declared.told.event.Event.TheVariants.{Emitted, Entered, Left, Pragma, Fault}
use Rattle.idl_event.specs.declared.told.event.Item.TheVariants.{Kept, Counted, Turn, TooDeep}
use Rattle.idl_event.specs.declared.asked.key.RootAnswer.{RootAnswer}
use Rattle.idl_event.specs.declared.asked.key.RootKey.{RootKey}
use Rattle.idl_fault.specs.declared.place.Place.{Place}
use Rattle.idl_macro.proofs.AllowanceLemmas.{left-after_item, left-after_key, left-replacement, left_by, no_zero}
use Rattle.idl_macro.proofs.ReplaceLemmas.{made, reached-followed_by, reached-replaced}

-- no item leaves more turns
fewer_by_token : (left : Allowance) (b : Bool) → turns_left (if b then None else Some (record left { tokens = left.tokens - 1 })) ≤ left.turns
fewer_by_token left true = omega arith
fewer_by_token left false = omega arith

fewer_by_turn : (left : Allowance) (b : Bool) → turns_left (if b then None else Some (record left { turns = left.turns - 1 })) ≤ left.turns
fewer_by_turn left true = omega arith
fewer_by_turn left false = omega arith

left_by-fewer : (item : Item) (left : Option Allowance) → turns_left (left_by item left) ≤ turns_left left
left_by-fewer item None = omega arith
left_by-fewer (Kept (Emitted place token)) (Some left) = fewer_by_token left (nat_eq left.tokens 0)
left_by-fewer (Counted place) (Some left) = fewer_by_token left (nat_eq left.tokens 0)
left_by-fewer (Turn place) (Some left) = fewer_by_turn left (nat_eq left.turns 0)
left_by-fewer (Kept (Entered file)) (Some left) = omega arith
left_by-fewer (Kept (Left file)) (Some left) = omega arith
left_by-fewer (Kept (Pragma place tokens)) (Some left) = omega arith
left_by-fewer (Kept (Fault place code text)) (Some left) = omega arith
left_by-fewer (TooDeep place) (Some left) = omega arith

-- a turn ends it, or leaves fewer
ends_or_fewer : (left : Allowance) (n m : ℕ) (b : Bool) → (b ≡ false → left.turns ≢ 0) → left.turns ≤ n → left.turns ≤ m
    → ((if b then None else Some (record left { turns = left.turns - 1 })) ≡ None)
    ⊎ ((turns_left (if b then None else Some (record left { turns = left.turns - 1 })) < n) × (turns_left (if b then None else Some (record left { turns = left.turns - 1 })) < m))
ends_or_fewer left n m true some h k = inl refl
ends_or_fewer left n m false some h k = let more = some refl in inr (omega arith, omega arith)

turn_ends_or_fewer : (place : Place) (left : Option Allowance) (n m : ℕ) → turns_left left ≤ n → turns_left left ≤ m
    → (left_by (Turn place) left ≡ None) ⊎ ((turns_left (left_by (Turn place) left) < n) × (turns_left (left_by (Turn place) left) < m))
turn_ends_or_fewer place None n m h k = inl refl
turn_ends_or_fewer place (Some left) n m h k = ends_or_fewer left n m (nat_eq left.turns 0) (no_zero left.turns) h k

module _ (bank : RootKey → Option RootAnswer) where
  -- nothing gives turns back
  pub turns-reached : {A : Type 0} (query : Expanding A) (p : Reached) → turns_left (reached bank query p).left ≤ turns_left p.left
  turns-reached (Done a) p = omega arith
  turns-reached (Ask k next) p =
      subst (λ (o : Option Allowance). turns_left (reached bank (next (bank k)) (after_key key_eq bank k p)).left ≤ turns_left o) (left-after_key bank k p)
      (turns-reached (next (bank k)) (after_key key_eq bank k p))
  turns-reached (Tell x query) p =
      let more = turns-reached query (after_item rules x p) in
      let fewer = subst (λ (o : Option Allowance). turns_left o ≤ turns_left p.left) (sym (left-after_item x p)) (left_by-fewer x p.left) in
      omega (arith, more, fewer)

  -- two that come to the same with each token do so with them all
  each-same : (f g : Token → Expanding (List Token)) (bound : ℕ) → ((t : Token) (p : Reached) → turns_left p.left ≤ bound → reached bank (f t) p ≡ reached bank (g t) p)
      → (tokens : List Token) (p : Reached) → turns_left p.left ≤ bound → reached bank (each f tokens) p ≡ reached bank (each g tokens) p
  each-same f g bound same [] p h = refl
  each-same f g bound same (t ∷ tokens) p h =
      let fewer = turns-reached (g t) p in
      reached-followed_by bank (f t) (each f tokens) p
      ∙ ap (reached bank (each f tokens)) (same t p h)
      ∙ each-same f g bound same tokens (reached bank (g t) p) (omega (arith, fewer, h))
      ∙ sym (reached-followed_by bank (g t) (each g tokens) p)

  module _ (item : Token → Item) (place : Place) (definitions : Definitions) where
    made-same : (n m : ℕ) → ((hidden : List (List ℕ)) (u : Token) (r : Reached) → turns_left r.left < n → turns_left r.left < m
        → reached bank (replaced item place definitions n hidden u) r ≡ reached bank (replaced item place definitions m hidden u) r)
        → (hidden : List (List ℕ)) (t : Token) (body : Option (List Token)) (q : Reached) → turns_left q.left ≤ n → turns_left q.left ≤ m
        → reached bank (made bank item place definitions 0 n hidden t body) q ≡ reached bank (made bank item place definitions 0 m hidden t body) q
    made-same n m same hidden t None q h k = refl
    made-same n m same hidden t (Some tokens) q h k =
        let r = after_item rules (Turn place) q in
        let here = replaced item place definitions n (t ∷ hidden) in
        let there = replaced item place definitions m (t ∷ hidden) in
        let left = left-after_item (Turn place) q in
        elim (turn_ends_or_fewer place q.left n m h k) [
          | inl ends ↦ progress_after-over rules key_eq bank (each here tokens) r (left ∙ ends) ∙ sym (progress_after-over rules key_eq bank (each there tokens) r (left ∙ ends))
          | inr fewer ↦
              let lt : turns_left r.left < n = subst (λ (o : Option Allowance). turns_left o < n) (sym left) fewer.0 in
              let lt' : turns_left r.left < m = subst (λ (o : Option Allowance). turns_left o < m) (sym left) fewer.1 in
              each-same here there (turns_left r.left) (λ (u : Token) (s : Reached) le. same (t ∷ hidden) u s (omega (arith, le, lt)) (omega (arith, le, lt'))) tokens r (omega arith)
        ]

    pub replaced-room : (n m : ℕ) (hidden : List (List ℕ)) (t : Token) (p : Reached) → turns_left p.left < n → turns_left p.left < m
        → reached bank (replaced item place definitions n hidden t) p ≡ reached bank (replaced item place definitions m hidden t) p
    replaced-room zero m hidden t p h k = absurd (omega (arith, h))
    replaced-room (suc n) zero hidden t p h k = absurd (omega (arith, k))
    replaced-room (suc n) (suc m) hidden t p h k =
        let body = outcome (replacement definitions hidden t) bank in
        let q = reached bank (replacement definitions hidden t) p in
        let same = left-replacement bank definitions hidden t p in
        let le : turns_left q.left ≤ n = subst (λ (o : Option Allowance). turns_left o ≤ n) (sym same) (omega (arith, h)) in
        let le' : turns_left q.left ≤ m = subst (λ (o : Option Allowance). turns_left o ≤ m) (sym same) (omega (arith, k)) in
        reached-replaced bank item place definitions 0 (suc n) n hidden t body p refl refl
        ∙ made-same n m (λ (hid : List (List ℕ)) (u : Token) (r : Reached) lt lt'. replaced-room n m hid u r lt lt') hidden t body q le le'
        ∙ sym (reached-replaced bank item place definitions 0 (suc m) m hidden t body p refl refl)
