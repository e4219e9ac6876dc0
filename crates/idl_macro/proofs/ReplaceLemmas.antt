-- The steps of a replacement: what the words in whose replacement it stands still stand for, and what a step makes of it.
use Rattle.std.proofs.Common.{◌≡◌, ℕ, suc, ◌-◌, ◌<◌, List, [], ◌∷◌, ◌++◌, length, Option, None, Some, Bor, refl, sym, ◌∙◌, ap, arith, append_assoc}
use Rattle.std.specs.Map.{keys_of}
use Rattle.idl_memo.specs.Progress.{after_item}
use Rattle.idl_memo.proofs.ProgressLaws.{progress_after-and_then}
use Rattle.idl_memo.specs.Query.{Done, Tell, and_then, outcome}
use Rattle.idl_memo.proofs.QueryLaws.{outcome-and_then}
use Rattle.idl_event.specs.Items.{rules}
use Rattle.idl_event.specs.Key.{key_eq}
use Rattle.idl_event.specs.Expanding.{Reached, Expanding, reached}
use Rattle.idl_macro.specs.Macros.{Definitions}
use Rattle.idl_macro.specs.Output.{item_of}
use Rattle.idl_macro.specs.Replace.{each, followed_by, place_at, replaced, replaced_at, replacement, stands, text}
use Rattle.idl_event.specs.declared.told.event.Item.{Item}
use Rattle.idl_event.specs.declared.told.event.Item.TheVariants.{Turn}
use Rattle.idl_event.specs.declared.asked.key.RootAnswer.{RootAnswer}
use Rattle.idl_event.specs.declared.asked.key.RootKey.{RootKey}
use Rattle.idl_fault.specs.declared.place.Place.{Place}
use Rattle.idl_lex.specs.tokens.Tokens.{Token}
use Rattle.idl_lex.specs.declared.tokens.token.PlacedToken.{PlacedToken}
use Rattle.idl_macro.specs.declared.replacement.Output.{Output}
use Rattle.idl_macro.specs.declared.replacement.Output.TheVariants.{Text}

-- a word in whose replacement the work stands, and what follows it
abbrev pub Open : Type 0
Open = List ℕ × Bor (List Token)

module _ (bank : RootKey → Option RootAnswer) where
  -- where one comes to with two, one after the other
  pub reached-followed_by : (query more : Expanding (List Token)) (p : Reached) → reached bank (followed_by query more) p ≡ reached bank more (reached bank query p)
  reached-followed_by query more p =
      progress_after-and_then rules key_eq bank query (λ first. and_then more (λ rest. Done (first ++ rest))) p
      ∙ progress_after-and_then rules key_eq bank more (λ rest. Done (outcome query bank ++ rest)) (reached bank query p)

  -- what comes of two, one after the other
  pub outcome-followed_by : (query more : Expanding (List Token)) → outcome (followed_by query more) bank ≡ outcome query bank ++ outcome more bank
  outcome-followed_by query more =
      outcome-and_then query (λ first. and_then more (λ rest. Done (first ++ rest))) bank
      ∙ outcome-and_then more (λ rest. Done (outcome query bank ++ rest)) bank

  module _ (item : Token → Item) (place : Place) (definitions : Definitions) (room : ℕ) where
    -- a token inside these replacements
    abbrev pub within : List Open → Token → Expanding (List Token)
    within fs = replaced item place definitions (room - length fs) (keys_of fs)

    -- these tokens inside these replacements, the innermost first, and what follows those
    abbrev pub pending : List Open → List Token → Expanding (List Token)
    pending [] tokens = each (within []) tokens
    pending (f ∷ fs) tokens = followed_by (each (within (f ∷ fs)) tokens) (pending fs f.1.now)

    -- the innermost replacement is at its end
    pub reached-pending-end : (f : Open) (fs : List Open) (p : Reached) → reached bank (pending (f ∷ fs) []) p ≡ reached bank (pending fs f.1.now) p
    reached-pending-end f fs p = reached-followed_by (Done []) (pending fs f.1.now) p

    pub outcome-pending-end : (f : Open) (fs : List Open) → outcome (pending (f ∷ fs) []) bank ≡ outcome (pending fs f.1.now) bank
    outcome-pending-end f fs = outcome-followed_by (Done []) (pending fs f.1.now)

    -- the first token comes first
    pub reached-pending-first : (fs : List Open) (t : Token) (tokens : List Token) (p : Reached)
        → reached bank (pending fs (t ∷ tokens)) p ≡ reached bank (pending fs tokens) (reached bank (within fs t) p)
    reached-pending-first [] t tokens p = reached-followed_by (within [] t) (each (within []) tokens) p
    reached-pending-first (f ∷ fs) t tokens p =
        let rest = each (within (f ∷ fs)) tokens in
        reached-followed_by (followed_by (within (f ∷ fs) t) rest) (pending fs f.1.now) p
        ∙ ap (reached bank (pending fs f.1.now)) (reached-followed_by (within (f ∷ fs) t) rest p)
        ∙ sym (reached-followed_by rest (pending fs f.1.now) (reached bank (within (f ∷ fs) t) p))

    pub outcome-pending-first : (fs : List Open) (t : Token) (tokens : List Token)
        → outcome (pending fs (t ∷ tokens)) bank ≡ outcome (within fs t) bank ++ outcome (pending fs tokens) bank
    outcome-pending-first [] t tokens = outcome-followed_by (within [] t) (each (within []) tokens)
    outcome-pending-first (f ∷ fs) t tokens =
        let rest = each (within (f ∷ fs)) tokens in
        outcome-followed_by (followed_by (within (f ∷ fs) t) rest) (pending fs f.1.now)
        ∙ ap (λ ts. ts ++ outcome (pending fs f.1.now) bank) (outcome-followed_by (within (f ∷ fs) t) rest)
        ∙ append_assoc (outcome (within (f ∷ fs) t) bank) (outcome rest bank) (outcome (pending fs f.1.now) bank)
        ∙ ap (λ ts. outcome (within (f ∷ fs) t) bank ++ ts) (sym (outcome-followed_by rest (pending fs f.1.now)))

    -- what is made of a token, by the body that it is replaced by
    abbrev pub made : ℕ → List (List ℕ) → Token → Option (List Token) → Expanding (List Token)
    made m hidden t body = elim body [
      | None ↦ stands item t
      | Some tokens ↦ Tell (Turn place) (each (replaced item place definitions m (t ∷ hidden)) tokens)
    ]

    pub reached-replaced : (n m : ℕ) (hidden : List (List ℕ)) (t : Token) (body : Option (List Token)) (p : Reached) → n ≡ suc m → outcome (replacement definitions hidden t) bank ≡ body
        → reached bank (replaced item place definitions n hidden t) p ≡ reached bank (made m hidden t body) (reached bank (replacement definitions hidden t) p)
    unfolding replaced
    reached-replaced n m hidden t body p e found =
        ap (λ k. reached bank (replaced item place definitions k hidden t) p) e
        ∙ progress_after-and_then rules key_eq bank (replacement definitions hidden t) (made m hidden t) p
        ∙ ap (λ b. reached bank (made m hidden t b) (reached bank (replacement definitions hidden t) p)) found

    pub outcome-replaced : (n m : ℕ) (hidden : List (List ℕ)) (t : Token) (body : Option (List Token)) → n ≡ suc m → outcome (replacement definitions hidden t) bank ≡ body
        → outcome (replaced item place definitions n hidden t) bank ≡ outcome (made m hidden t body) bank
    unfolding replaced
    outcome-replaced n m hidden t body e found =
        ap (λ k. outcome (replaced item place definitions k hidden t) bank) e
        ∙ outcome-and_then (replacement definitions hidden t) (made m hidden t) bank
        ∙ ap (λ b. outcome (made m hidden t b) bank) found

    -- a token that stands for itself
    pub reached-pending-stands : (fs : List Open) (t : Token) (tokens : List Token) (p : Reached) → length fs < room → outcome (replacement definitions (keys_of fs) t) bank ≡ None
        → reached bank (pending fs (t ∷ tokens)) p ≡ reached bank (pending fs tokens) (after_item rules (item t) (reached bank (replacement definitions (keys_of fs) t) p))
    reached-pending-stands fs t tokens p lt none =
        let e : room - length fs ≡ suc (room - suc (length fs)) = omega arith in
        reached-pending-first fs t tokens p
        ∙ ap (reached bank (pending fs tokens)) (reached-replaced (room - length fs) (room - suc (length fs)) (keys_of fs) t None p e none)

    pub outcome-pending-stands : (fs : List Open) (t : Token) (tokens : List Token) → length fs < room → outcome (replacement definitions (keys_of fs) t) bank ≡ None
        → outcome (pending fs (t ∷ tokens)) bank ≡ t ∷ outcome (pending fs tokens) bank
    outcome-pending-stands fs t tokens lt none =
        let e : room - length fs ≡ suc (room - suc (length fs)) = omega arith in
        outcome-pending-first fs t tokens
        ∙ ap (λ ts. ts ++ outcome (pending fs tokens) bank) (outcome-replaced (room - length fs) (room - suc (length fs)) (keys_of fs) t None e none)

    -- a token that is replaced: a turn, and the tokens of the body, inside one replacement more
    pub reached-pending-replaced : (fs : List Open) (t : Token) (tokens : Bor (List Token)) (body : List Token) (p : Reached) → length fs < room → outcome (replacement definitions (keys_of fs) t) bank ≡ Some body
        → reached bank (pending fs (t ∷ tokens.now)) p ≡ reached bank (pending ((t, tokens) ∷ fs) body) (after_item rules (Turn place) (reached bank (replacement definitions (keys_of fs) t) p))
    reached-pending-replaced fs t tokens body p lt found =
        let e : room - length fs ≡ suc (room - suc (length fs)) = omega arith in
        let q = after_item rules (Turn place) (reached bank (replacement definitions (keys_of fs) t) p) in
        reached-pending-first fs t tokens.now p
        ∙ ap (reached bank (pending fs tokens.now)) (reached-replaced (room - length fs) (room - suc (length fs)) (keys_of fs) t (Some body) p e found)
        ∙ sym (reached-followed_by (each (within ((t, tokens) ∷ fs)) body) (pending fs tokens.now) q)

    pub outcome-pending-replaced : (fs : List Open) (t : Token) (tokens : Bor (List Token)) (body : List Token) → length fs < room → outcome (replacement definitions (keys_of fs) t) bank ≡ Some body
        → outcome (pending fs (t ∷ tokens.now)) bank ≡ outcome (pending ((t, tokens) ∷ fs) body) bank
    outcome-pending-replaced fs t tokens body lt found =
        let e : room - length fs ≡ suc (room - suc (length fs)) = omega arith in
        outcome-pending-first fs t tokens.now
        ∙ ap (λ ts. ts ++ outcome (pending fs tokens.now) bank) (outcome-replaced (room - length fs) (room - suc (length fs)) (keys_of fs) t (Some body) e found)
        ∙ sym (outcome-followed_by (each (within ((t, tokens) ∷ fs)) body) (pending fs tokens.now))

module _ (bank : RootKey → Option RootAnswer) (file : List ℕ) (definitions : Definitions) where
  -- a text is replaced token by token, each at its own place
  pub reached-text-first : (t : PlacedToken) (tokens : List PlacedToken) (output : Output) (place : Place) (part : List Token) (p q : Reached)
      → item_of output ≡ item_of Text → place ≡ place_at file t → part ≡ t.token ∷ []
      → q ≡ reached bank (replaced_at (item_of output place) place definitions part) p
      → reached bank (text file definitions (t ∷ tokens)) p ≡ reached bank (text file definitions tokens) q
  unfolding text
  reached-text-first t tokens output place part p q same here one made =
      let first = replaced_at (item_of Text (place_at file t)) (place_at file t) definitions (t.token ∷ []) in
      reached-followed_by bank first (text file definitions tokens) p
      ∙ ap (reached bank (text file definitions tokens)) (sym (made ∙ (λ j. reached bank (replaced_at (same j (here j)) (here j) definitions (one j)) p)))

  -- and where none is left, nothing is told
  pub reached-text-nil : (p : Reached) → reached bank (text file definitions []) p ≡ p
  unfolding text
  reached-text-nil p = refl

  -- two texts, end to end
  pub reached-text-append : (front behind : List PlacedToken) (p : Reached)
      → reached bank (text file definitions (front ++ behind)) p ≡ reached bank (text file definitions behind) (reached bank (text file definitions front) p)
  unfolding text
  reached-text-append [] behind p = refl
  reached-text-append (t ∷ front) behind p =
      let first = replaced_at (item_of Text (place_at file t)) (place_at file t) definitions (t.token ∷ []) in
      let q = reached bank first p in
      reached-followed_by bank first (text file definitions (front ++ behind)) p
      ∙ reached-text-append front behind q
      ∙ ap (reached bank (text file definitions behind)) (sym (reached-followed_by bank first (text file definitions front) p))
