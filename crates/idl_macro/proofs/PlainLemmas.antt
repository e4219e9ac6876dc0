-- Tokens that stand for themselves: what is asked of the next one may be asked before they are told.
use Rattle.std.proofs.Common.{◌≡◌, ◌≢◌, ℕ, zero, suc, ◌+◌, ◌<◌, ◌≤◌, Bool, true, false, not, ◌&&◌, if◌then◌else◌, List, [], ◌∷◌, ◌++◌, drop, length, take, Option, None, Some, refl, sym, ap, subst, ◌∙◌, ◌-◌, arith}
use Rattle.std.proofs.lemmas.List.{length-take-le}
use Rattle.std.specs.List.{list_any}
use Rattle.std.specs.Map.{lookup}
use Rattle.std.specs.Str.{bytes_eq}
use Rattle.idl_memo.specs.Progress.{after_item, after_key}
use Rattle.idl_memo.specs.Query.{Done, Ask, noted, outcome}
use Rattle.idl_event.proofs.AfterLemmas.{after-token}
use Rattle.idl_event.specs.Expanding.{Reached, after_text, arrival, arrived, reached}
use Rattle.idl_event.specs.Items.{rules, tokens_left}
use Rattle.idl_event.specs.Key.{key_eq}
use Rattle.idl_event.specs.declared.told.allowance.Allowance.{Allowance}
use Rattle.idl_event.specs.declared.told.event.Event.TheVariants.{Emitted}
use Rattle.idl_event.specs.declared.told.event.Item.TheVariants.{Kept}
use Rattle.idl_event.specs.declared.asked.key.RootAnswer.{RootAnswer}
use Rattle.idl_event.specs.declared.asked.key.RootKey.{RootKey}
use Rattle.idl_event.specs.declared.asked.key.RootKey.TheVariants as key
use Rattle.idl_fault.specs.declared.place.Place.{Place}
use Rattle.idl_lex.specs.tokens.Tokens.{Token}
use Rattle.idl_lex.specs.kinds.Word.{is_word}
use Rattle.idl_lex.specs.declared.tokens.token.PlacedToken.{PlacedToken}
use Rattle.idl_macro.specs.Macros.{Definitions, body_in, macro_of}
use Rattle.idl_macro.specs.Output.{item_of}
use Rattle.idl_macro.specs.Replace.{place_at, replaced_at, replacement, text}
use Rattle.idl_macro.specs.declared.replacement.Output.TheVariants.{Text}
use Rattle.idl_macro.proofs.AgainLemmas.{reached-replaced_at-again, reached-replaced_at-stands}
use Rattle.idl_macro.proofs.AllowanceLemmas.{left-replacement, replacement-found}
use Rattle.idl_macro.proofs.ReplaceLemmas.{reached-text-first}

-- the next token of a list
pub next-token : {A : Type 0} (n : ℕ) (ts : List A) (t : A) (rest : List A) → drop n ts ≡ t ∷ rest
    → (n < length ts) × (drop (suc n) ts ≡ rest) × (take (suc n) ts ≡ take n ts ++ t ∷ [])
next-token zero [] t rest e = cc
next-token zero (x ∷ xs) t rest e = (omega arith, ap (drop 1) e, ap (take 1) e)
next-token (suc n) [] t rest e = cc
next-token (suc n) (x ∷ xs) t rest e =
    let behind = next-token n xs t rest e in
    (omega (arith, behind.0), behind.1, ap (λ l. x ∷ l) behind.2)

-- a token more, behind the others
pub after_text-last : (file : List ℕ) (front : List PlacedToken) (t : PlacedToken) (p : Reached)
    → after_text file (front ++ t ∷ []) p ≡ after_item rules (Kept (Emitted (place_at file t) t.token)) (after_text file front p)
after_text-last file [] t p = refl
after_text-last file (u ∷ front) t p = after_text-last file front t (after_item rules (Kept (Emitted (place_at file u) u.token)) p)

-- what is done alike before a token that the limits leave and behind it
abbrev Passes : (Reached → Reached) → Type 0
Passes f = (place : Place) (t : Token) (p : Reached) (left : Allowance) (k : ℕ) → p.left ≡ Some left → suc k ≤ left.tokens
    → f (after_item rules (Kept (Emitted place t)) p) ≡ after_item rules (Kept (Emitted place t)) (f p)

-- is done alike before tokens and behind them
passes-all : (file : List ℕ) (f : Reached → Reached) → Passes f → (ts : List PlacedToken) (p : Reached) (left : Allowance) → p.left ≡ Some left → length ts ≤ left.tokens
    → f (after_text file ts p) ≡ after_text file ts (f p)
passes-all file f passes [] p left going le = refl
passes-all file f passes (t ∷ ts) p left going le =
    let place = place_at file t in
    let told : (after_item rules (Kept (Emitted place t.token)) p).left ≡ Some (record left { tokens = left.tokens - 1 }) =
    ap (λ (r : Reached). r.left) (after-token place t.token p left (length ts) going le) in
    passes-all file f passes ts (after_item rules (Kept (Emitted place t.token)) p) (record left { tokens = left.tokens - 1 }) told (omega (arith, le))
    ∙ ap (after_text file ts) (passes place t.token p left (length ts) going le)

module _ (bank : RootKey → Option RootAnswer) where
  -- a key is asked so
  key-passes : (k : RootKey) → Passes (after_key key_eq bank k)
  key-passes k place t p left n going le =
      let asked : Reached = record p { log = noted key_eq bank p.log k } in
      let is : after_key key_eq bank k p ≡ asked = ap (λ (o : Option Allowance). elim o [ None ↦ p | Some left ↦ asked ]) going in
      ap (after_key key_eq bank k) (after-token place t p left n going le)
      ∙ sym (ap (after_item rules (Kept (Emitted place t))) is ∙ after-token place t asked left n going le)

  module _ (definitions : Definitions) where
    -- so is a macro
    said-passes : (word : List ℕ) (said : Option (Option (List Token)))
        → Passes (reached bank (elim said [ None ↦ Ask (key.Macro word) (λ found. Done (body_in found)) | Some body ↦ Done body ]))
    said-passes word None place t p left n going le = key-passes (key.Macro word) place t p left n going le
    said-passes word (Some body) place t p left n going le = refl

    macro-passes : (word : List ℕ) → Passes (reached bank (macro_of definitions word))
    unfolding macro_of
    macro-passes word = said-passes word (lookup (bytes_eq word) definitions)

    -- and the body of a token
    if-passes : (word : List ℕ) (c : Bool) → Passes (reached bank (if c then macro_of definitions word else Done None))
    if-passes word true place t p left n going le = macro-passes word place t p left n going le
    if-passes word false place t p left n going le = refl

    replacement-passes : (word : Token) → Passes (reached bank (replacement definitions [] word))
    unfolding replacement
    replacement-passes word = if-passes word (is_word word && not (list_any (bytes_eq word) []))

    -- so the body of a token may be looked for before those in front of it are told
    pub asked-before : (file : List ℕ) (t : Token) (front : List PlacedToken) (p : Reached) → length front ≤ tokens_left p.left
        → after_text file front (reached bank (replacement definitions [] t) p) ≡ reached bank (replacement definitions [] t) (after_text file front p)
    asked-before file t front p = by front p.left refl
      where
        by : (front : List PlacedToken) (o : Option Allowance) → p.left ≡ o → length front ≤ tokens_left o
            → after_text file front (reached bank (replacement definitions [] t) p) ≡ reached bank (replacement definitions [] t) (after_text file front p)
        by [] o is le = refl
        by (u ∷ front) None is le = absurd (omega (arith, le))
        by (u ∷ front) (Some left) is le = sym (passes-all file (reached bank (replacement definitions [] t)) (replacement-passes t) (u ∷ front) p left is le)

module _ (bank : RootKey → Option RootAnswer) (file : List ℕ) (definitions : Definitions) where
  -- a text whose first token was asked for already
  again : (t : PlacedToken) (rest : List PlacedToken) (p : Reached)
      → reached bank (text file definitions (t ∷ rest)) (reached bank (replacement definitions [] t.token) p) ≡ reached bank (text file definitions (t ∷ rest)) p
  again t rest p =
      let place = place_at file t in
      let item = item_of Text place in
      let once : Reached → Reached = λ r. reached bank (replaced_at item place definitions (t.token ∷ [])) r in
      let first : (r : Reached) → reached bank (text file definitions (t ∷ rest)) r ≡ reached bank (text file definitions rest) (once r) =
      λ r. reached-text-first bank file definitions t rest Text place (t.token ∷ []) r (once r) refl refl refl refl in
      let asked = reached bank (replacement definitions [] t.token) p in
      first asked
      ∙ ap (reached bank (text file definitions rest)) (reached-replaced_at-again bank definitions item place t.token p asked refl)
      ∙ sym (first p)

  module _ (t : PlacedToken) (rest front : List PlacedToken) (p q : Reached) where
    -- the first token was asked for before those in front of it are told
    pub asked-first : length front ≤ tokens_left p.left → q ≡ reached bank (replacement definitions [] t.token) p
        → reached bank (text file definitions (t ∷ rest)) (after_text file front p) ≡ reached bank (text file definitions (t ∷ rest)) (after_text file front q)
    asked-first le asked =
        sym (again t rest (after_text file front p))
        ∙ ap (reached bank (text file definitions (t ∷ rest))) (sym (ap (after_text file front) asked ∙ asked-before bank definitions file t.token front p le))

    -- and where it has no body, it is told behind them
    pub plain-first : suc (length front) ≤ tokens_left p.left → arrived None q ≡ arrival bank (replacement definitions [] t.token) p
        → reached bank (text file definitions (t ∷ rest)) (after_text file front p) ≡ reached bank (text file definitions rest) (after_text file (front ++ t ∷ []) q)
    plain-first le asked =
        let place = place_at file t in
        let behind = after_text file front p in
        let query = replacement definitions [] t.token in
        let le' : length front ≤ tokens_left p.left = omega (arith, le) in
        let same : q ≡ reached bank query p = ap (λ (r : Reached × Option (Option (List Token))). r.0) asked in
        let moved : after_text file front q ≡ reached bank query behind = ap (after_text file front) same ∙ asked-before bank definitions file t.token front p le' in
        let going : p.left ≢ None = λ over. let no : suc (length front) ≤ 0 = ap-le over in absurd (omega (arith, no)) in
        let none : outcome query bank ≡ None = replacement-found bank definitions [] t.token None p q going asked in
        let found : arrived None (after_text file front q) ≡ arrival bank query behind = λ j. arrived (sym none j) (moved j) in
        let made = reached-replaced_at-stands bank definitions (item_of Text place) place t.token behind (after_text file front q) found in
        reached-text-first bank file definitions t rest Text place (t.token ∷ []) behind (after_item rules (Kept (Emitted place t.token)) (after_text file front q)) refl refl refl made
        ∙ ap (reached bank (text file definitions rest)) (sym (after_text-last file front t q))
      where
        ap-le : p.left ≡ None → suc (length front) ≤ 0
        ap-le over = subst (λ (o : Option Allowance). suc (length front) ≤ tokens_left o) over le

-- so many of these tokens were passed by, which are still to be told
pub record ArePassed (bank : RootKey → Option RootAnswer) (definitions : Definitions) (tokens : List PlacedToken) (count : ℕ) (begun p : Reached) : Type 0 where
  pub within : count ≤ length tokens
  pub room : length tokens ≤ tokens_left p.left
  pub plain : (file : List ℕ) → reached bank (text file definitions tokens) begun ≡ reached bank (text file definitions (drop count tokens)) (after_text file (take count tokens) p)

-- what comes of them where one stops
pub record IsPlain (bank : RootKey → Option RootAnswer) (definitions : Definitions) (tokens : List PlacedToken) (count : ℕ) (begun p : Reached) : Type 0 where
  pub within : count ≤ length tokens
  pub room : count ≤ tokens_left p.left
  pub plain : (file : List ℕ) → reached bank (text file definitions tokens) begun ≡ reached bank (text file definitions (drop count tokens)) (after_text file (take count tokens) p)

module _ (bank : RootKey → Option RootAnswer) (definitions : Definitions) (tokens : List PlacedToken) (count : ℕ) (begun p : Reached) (passed : ArePassed bank definitions tokens count begun p) where
  front-long : length (take count tokens) ≡ count
  front-long = length-take-le count tokens passed.within

  module _ (t : PlacedToken) (rest : List PlacedToken) (q : Reached) (first : drop count tokens ≡ t ∷ rest) where
    -- the next one was asked for, and they stop there
    pub passed-asked : q ≡ reached bank (replacement definitions [] t.token) p → IsPlain bank definitions tokens count begun q
    passed-asked asked =
        let front = take count tokens in
        let same : q.left ≡ p.left = ap (λ (r : Reached). r.left) asked ∙ left-replacement bank definitions [] t.token p in
        let few : count ≤ tokens_left p.left = omega (arith, passed.within, passed.room) in
        let le : length front ≤ tokens_left p.left = subst (λ n. n ≤ tokens_left p.left) (sym front-long) few in
        record {
          within = passed.within;
          room = subst (λ (o : Option Allowance). count ≤ tokens_left o) (sym same) few;
          plain = λ file.
              passed.plain file
              ∙ ap (λ ts. reached bank (text file definitions ts) (after_text file front p)) first
              ∙ asked-first bank file definitions t rest front p q le asked
              ∙ ap (λ ts. reached bank (text file definitions ts) (after_text file front q)) (sym first);
        }

    -- the next one stands for itself
    pub passed-next : arrived None q ≡ arrival bank (replacement definitions [] t.token) p → ArePassed bank definitions tokens (count + 1) begun q
    passed-next asked =
        let front = take count tokens in
        let next = next-token count tokens t rest first in
        let same : q.left ≡ p.left = ap (λ (r : Reached × Option (Option (List Token))). r.0.left) asked ∙ left-replacement bank definitions [] t.token p in
        let up : count + 1 ≡ suc count = omega arith in
        let more : take (count + 1) tokens ≡ front ++ t ∷ [] = ap (λ n. take n tokens) up ∙ next.2 in
        let behind : drop (count + 1) tokens ≡ rest = ap (λ n. drop n tokens) up ∙ next.1 in
        let few : suc count ≤ tokens_left p.left = omega (arith, next.0, passed.room) in
        let le : suc (length front) ≤ tokens_left p.left = subst (λ n. suc n ≤ tokens_left p.left) (sym front-long) few in
        record {
          plain = λ file.
              passed.plain file
              ∙ ap (λ ts. reached bank (text file definitions ts) (after_text file front p)) first
              ∙ plain-first bank file definitions t rest front p q le asked
              ∙ (λ j. reached bank (text file definitions (sym behind j)) (after_text file (sym more j) q));
          within = omega (arith, next.0);
          room = subst (λ (o : Option Allowance). length tokens ≤ tokens_left o) (sym same) passed.room;
        }
