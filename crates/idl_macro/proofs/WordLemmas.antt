-- Words that are asked for before the tokens of a text: what was asked and is answered as it was notes nothing.
use Rattle.std.proofs.Common.{◌≡◌, ℕ, ◌+◌, ◌<◌, ◌≤◌, Bool, true, false, cond, not, ◌&&◌, ◌||◌, if◌then◌else◌, inl, inr, List, [], ◌∷◌, ◌++◌, append-nil, append_assoc, get_or, length, length-append, take, Option, None, Some, refl, sym, ap, subst, ◌∙◌, arith}
use Rattle.std.proofs.lemmas.List.Elements.{All-contains, All-head, All-more, All-tail, All-weaker}
use Rattle.std.proofs.lemmas.List.Folds.{list_any-append}
use Rattle.std.specs.List.{All, list_any}
use Rattle.std.specs.Map.{lookup}
use Rattle.std.specs.Str.{bytes_eq}
use Rattle.idl_memo.specs.Progress.{after_key}
use Rattle.idl_memo.proofs.ProgressLaws.{progress_after-over}
use Rattle.idl_memo.specs.Query.{Done, Ask, is_logged, noted, outcome}
use Rattle.idl_event.specs.Expanding.{Expanding, Reached, after_text, arrival, arrived, reached}
use Rattle.idl_event.specs.Items.{rules, tokens_left}
use Rattle.idl_event.specs.Key.{key_eq}
use Rattle.idl_event.specs.declared.told.allowance.Allowance.{Allowance}
use Rattle.idl_event.specs.declared.asked.key.RootAnswer.{RootAnswer}
use Rattle.idl_event.specs.declared.asked.key.RootKey.{RootKey}
use Rattle.idl_event.specs.declared.asked.key.RootKey.TheVariants as key
use Rattle.idl_lex.specs.tokens.Tokens.{Token}
use Rattle.idl_lex.specs.kinds.Word.{is_word}
use Rattle.idl_lex.specs.declared.tokens.token.PlacedToken.{PlacedToken}
use Rattle.idl_text.specs.Texts.{AreWordsOf, Brings, IsMet}
use Rattle.idl_macro.specs.Macros.{Definitions, body_in, macro_of}
use Rattle.idl_macro.specs.Replace.{replacement, text}
use Rattle.idl_macro.proofs.AgainLemmas.{twice-replacement}
use Rattle.idl_macro.proofs.AllowanceLemmas.{left-replacement, replacement-found}
use Rattle.idl_macro.proofs.ArrivalLemmas.{arrived-over}
use Rattle.idl_macro.proofs.MacroLemmas.{replacement-no_word}
use Rattle.idl_macro.proofs.PlainLemmas.{asked-first, plain-first}
use Rattle.idl_macro.proofs.ReplaceLemmas.{reached-text-nil}

abbrev Entries : Type 0
Entries = List (RootKey × Option RootAnswer)

module _ (bank : RootKey → Option RootAnswer) where
  -- a key that is logged is so when another one is noted
  logged-more : (log : Entries) (k other : RootKey) → is_logged key_eq log k ≡ true → is_logged key_eq (noted key_eq bank log other) k ≡ true
  logged-more log k other h = by (is_logged key_eq log other)
    where
      by : (b : Bool) → is_logged key_eq (cond b log (log ++ (other, bank other) ∷ [])) k ≡ true
      by true = h
      by false =
          list_any-append (λ (e : RootKey × Option RootAnswer). key_eq k e.0) log ((other, bank other) ∷ [])
          ∙ (λ i. h i || (key_eq k other || false))

  -- a key with which nothing is noted is logged
  logged-noted : (log : Entries) (k : RootKey) → noted key_eq bank log k ≡ log → is_logged key_eq log k ≡ true
  logged-noted log k same = by (is_logged key_eq log k) refl
    where
      by : (b : Bool) → is_logged key_eq log k ≡ b → is_logged key_eq log k ≡ true
      by true is = is
      by false is =
          let longer : log ++ (k, bank k) ∷ [] ≡ log = sym (ap (λ b. cond b log (log ++ (k, bank k) ∷ [])) is) ∙ same in
          absurd (omega (arith, ap length longer, length-append log ((k, bank k) ∷ [])))

  -- asking a key changes nothing
  abbrev Stays : RootKey → Reached → Type 0
  Stays k p = after_key key_eq bank k p ≡ p

  -- where it changes nothing here it changes nothing there
  abbrev Keeps : Reached → Reached → Type 0
  Keeps p q = (k : RootKey) → Stays k p → Stays k q

  -- that is so when another one was asked
  key-later : (other : RootKey) (p : Reached) → Keeps p (after_key key_eq bank other p)
  key-later other p k same = by p.left refl
    where
      by : (o : Option Allowance) → p.left ≡ o → after_key key_eq bank k (after_key key_eq bank other p) ≡ after_key key_eq bank other p
      by None over =
          let stays : after_key key_eq bank other p ≡ p = progress_after-over rules key_eq bank (Ask other (λ _. Done p)) p over in
          ap (after_key key_eq bank k) stays ∙ same ∙ sym stays
      by (Some left) going =
          let with_log : Entries → Reached = λ entries. record p { log = entries } in
          let once : (one : RootKey) → after_key key_eq bank one p ≡ with_log (noted key_eq bank p.log one) =
          λ one. ap (λ (o : Option Allowance). elim o [ None ↦ p | Some left ↦ with_log (noted key_eq bank p.log one) ]) going in
          let later : Entries = noted key_eq bank p.log other in
          let there : is_logged key_eq later k ≡ true = logged-more p.log k other (logged-noted p.log k (ap (λ (r : Reached). r.log) (sym (once k) ∙ same))) in
          ap (after_key key_eq bank k) (once other)
          ∙ ap (λ (o : Option Allowance). elim o [ None ↦ with_log later | Some left ↦ with_log (noted key_eq bank later k) ]) going
          ∙ ap with_log (ap (λ b. cond b later (later ++ (k, bank k) ∷ [])) there)
          ∙ sym (once other)

  module _ (definitions : Definitions) where
    -- and when a macro was looked for
    keeps-said : (word : List ℕ) (p : Reached) (said : Option (Option (List Token)))
        → let query : Expanding (Option (List Token)) = elim said [ None ↦ Ask (key.Macro word) (λ found. Done (body_in found)) | Some body ↦ Done body ] in
        Keeps p (reached bank query p)
    keeps-said word p None = key-later (key.Macro word) p
    keeps-said word p (Some body) = λ k same. same

    keeps-macro_of : (word : List ℕ) (p : Reached) → Keeps p (reached bank (macro_of definitions word) p)
    unfolding macro_of
    keeps-macro_of word p = keeps-said word p (lookup (bytes_eq word) definitions)

    keeps-if : (word : List ℕ) (p : Reached) (c : Bool)
        → let query : Expanding (Option (List Token)) = if c then macro_of definitions word else Done None in
        Keeps p (reached bank query p)
    keeps-if word p true = keeps-macro_of word p
    keeps-if word p false = λ k same. same

    keeps-replacement : (t : Token) (p : Reached) → Keeps p (reached bank (replacement definitions [] t) p)
    unfolding replacement
    keeps-replacement t p = keeps-if t p (is_word t && not (list_any (bytes_eq t) []))

    module _ (p q : Reached) (keeps : Keeps p q) where
      -- so looking for a macro changes nothing either
      stays-said : (word : List ℕ) (said : Option (Option (List Token)))
          → let query : Expanding (Option (List Token)) = elim said [ None ↦ Ask (key.Macro word) (λ found. Done (body_in found)) | Some body ↦ Done body ] in
          reached bank query p ≡ p → reached bank query q ≡ q
      stays-said word None = keeps (key.Macro word)
      stays-said word (Some body) = λ same. refl

      stays-macro_of : (word : List ℕ) → reached bank (macro_of definitions word) p ≡ p → reached bank (macro_of definitions word) q ≡ q
      unfolding macro_of
      stays-macro_of word = stays-said word (lookup (bytes_eq word) definitions)

      stays-if : (word : List ℕ) (c : Bool)
          → let query : Expanding (Option (List Token)) = if c then macro_of definitions word else Done None in
          reached bank query p ≡ p → reached bank query q ≡ q
      stays-if word true = stays-macro_of word
      stays-if word false = λ same. refl

      stays-replacement : (t : Token) → reached bank (replacement definitions [] t) p ≡ p → reached bank (replacement definitions [] t) q ≡ q
      unfolding replacement
      stays-replacement t = stays-if t (is_word t && not (list_any (bytes_eq t) []))

    -- a token whose body was looked for, and that has none
    abbrev pub IsAsked : Reached → Token → Type 0
    IsAsked p t = arrived None p ≡ arrival bank (replacement definitions [] t) p

    -- one that is no word need not be looked for
    asked-no_word : (p : Reached) (t : Token) → is_word t ≡ false → IsAsked p t
    asked-no_word p t none = sym (ap (λ query. arrival bank query p) (replacement-no_word definitions [] t none))

    -- one that was just looked for
    asked-now : (p q : Reached) (t : Token) → arrived None q ≡ arrival bank (replacement definitions [] t) p → IsAsked q t
    asked-now p q t asked =
        let query = replacement definitions [] t in
        let same : q ≡ reached bank query p = ap (λ (r : Reached × Option (Option (List Token))). r.0) asked in
        asked ∙ ap (arrived (outcome query bank)) (sym (ap (reached bank query) same ∙ twice-replacement bank definitions [] t p))

    -- it was so when another one was looked for since
    asked-later : (p : Reached) (other t : Token) → IsAsked p t → IsAsked (reached bank (replacement definitions [] other) p) t
    asked-later p other t asked = by p.left refl
      where
        query : Expanding (Option (List Token))
        query = replacement definitions [] t

        later : Reached
        later = reached bank (replacement definitions [] other) p

        still : reached bank query p ≡ p
        still = sym (ap (λ (r : Reached × Option (Option (List Token))). r.0) asked)

        same : reached bank query later ≡ later
        same = stays-replacement p later (keeps-replacement other p) t still

        by : (o : Option Allowance) → p.left ≡ o → arrived None later ≡ arrival bank query later
        by None over =
            arrived-over None (outcome query bank) later (left-replacement bank definitions [] other p ∙ over)
            ∙ ap (arrived (outcome query bank)) (sym same)
        by (Some left) going =
            let none : outcome query bank ≡ None = replacement-found bank definitions [] t None p p (λ over. let no = sym going ∙ over in cc) asked in
            λ i. arrived (sym none i) (sym same i)

    -- tokens that were looked for are told as they stand
    plain-all : (file : List ℕ) (ts rest front : List PlacedToken) (p : Reached) → length front + length ts ≤ tokens_left p.left → All (λ (t : PlacedToken). IsAsked p t.token) ts
        → reached bank (text file definitions (ts ++ rest)) (after_text file front p) ≡ reached bank (text file definitions rest) (after_text file (front ++ ts) p)
    plain-all file [] rest front p le all = ap (λ fs. reached bank (text file definitions rest) (after_text file fs p)) (sym (append-nil front))
    plain-all file (t ∷ ts) rest front p le all =
        plain-first bank file definitions t (ts ++ rest) front p p (omega (arith, le)) (All-head (λ (t : PlacedToken). IsAsked p t.token) t ts all)
        ∙ plain-all file ts rest (front ++ t ∷ []) p (omega (arith, le, length-append front (t ∷ []))) (All-tail (λ (t : PlacedToken). IsAsked p t.token) t ts all)
        ∙ ap (λ fs. reached bank (text file definitions rest) (after_text file fs p)) (append_assoc front (t ∷ []) ts)

    -- one that is met among words that were looked for
    asked-met : (p : Reached) (words : List Token) → All (IsAsked p) words → (t : PlacedToken) → IsMet words t → IsAsked p t.token
    asked-met p words asked t (inl none) = asked-no_word p t.token none
    asked-met p words asked t (inr there) = All-contains (IsAsked p) words t.token asked there

-- These words were asked for, which have no macros; that changes nothing where all tokens are asked for behind it.
pub record AreAsked (bank : RootKey → Option RootAnswer) (definitions : Definitions) (tokens : List PlacedToken) (asked : List Token) (begun p : Reached) : Type 0 where
  pub room : length tokens ≤ tokens_left p.left
  pub each : All (IsAsked bank definitions p) asked
  pub again : (file : List ℕ) → reached bank (text file definitions tokens) p ≡ reached bank (text file definitions tokens) begun

module _ (bank : RootKey → Option RootAnswer) (definitions : Definitions) (tokens : List PlacedToken) (words : List Token) (are : AreWordsOf tokens words) (begun p : Reached) where
  -- where all were asked for, all tokens are told as they stand
  pub asked-all : AreAsked bank definitions tokens words begun p → (file : List ℕ) → after_text file tokens p ≡ reached bank (text file definitions tokens) begun
  asked-all asked file =
      let all : All (λ (t : PlacedToken). IsAsked bank definitions p t.token) tokens =
      All-weaker (IsMet words) (λ (t : PlacedToken). IsAsked bank definitions p t.token) (asked-met bank definitions p words asked.each) tokens are.all in
      sym (ap (λ ts. reached bank (text file definitions ts) p) (sym (append-nil tokens))
      ∙ plain-all bank definitions file tokens [] [] p (omega (arith, asked.room)) all
      ∙ reached-text-nil bank file definitions (after_text file tokens p))
      ∙ asked.again file

  module _ (count : ℕ) (q : Reached) (here : count < length words) (asked : AreAsked bank definitions tokens (take count words) begun p) where
    abbrev next : Token
    next = get_or words count []

    brought : Brings tokens (take count words) next
    brought = are.each count here

    -- all in front of it
    front-asked : (r : Reached) → All (IsAsked bank definitions r) (take count words) → All (λ (t : PlacedToken). IsAsked bank definitions r t.token) brought.front
    front-asked r each =
        All-weaker (IsMet (take count words)) (λ (t : PlacedToken). IsAsked bank definitions r t.token) (asked-met bank definitions r (take count words) each) brought.front brought.known

    -- the text, behind what is in front of it
    behind-front : (file : List ℕ) (r : Reached) → length tokens ≤ tokens_left r.left → All (IsAsked bank definitions r) (take count words)
        → reached bank (text file definitions tokens) r ≡ reached bank (text file definitions (brought.first ∷ brought.behind)) (after_text file brought.front r)
    behind-front file r room each =
        ap (λ ts. reached bank (text file definitions ts) r) brought.all
        ∙ plain-all bank definitions file brought.front (brought.first ∷ brought.behind) [] r
        (omega (arith, room, ap length brought.all, length-append brought.front (brought.first ∷ brought.behind))) (front-asked r each)

    -- the next one was asked for: those before it are still asked for, and where all tokens are behind it nothing is another
    pub asked-again : q ≡ reached bank (replacement definitions [] next) p → AreAsked bank definitions tokens (take count words) begun q
    asked-again is =
        let same : q.left ≡ p.left = ap (λ (r : Reached). r.left) is ∙ left-replacement bank definitions [] next p in
        let room : length tokens ≤ tokens_left q.left = subst (λ (o : Option Allowance). length tokens ≤ tokens_left o) (sym same) asked.room in
        let each : All (IsAsked bank definitions q) (take count words) =
        subst (λ (r : Reached). All (IsAsked bank definitions r) (take count words)) (sym is)
        (All-weaker (IsAsked bank definitions p) (IsAsked bank definitions (reached bank (replacement definitions [] next) p)) (asked-later bank definitions p next) (take count words) asked.each) in
        let few : length brought.front ≤ tokens_left p.left = omega (arith, asked.room, ap length brought.all, length-append brought.front (brought.first ∷ brought.behind)) in
        let first : q ≡ reached bank (replacement definitions [] brought.first.token) p = is ∙ ap (λ w. reached bank (replacement definitions [] w) p) (sym brought.is) in
        record {
          room = room;
          each = each;
          again = λ file.
              behind-front file q room each
              ∙ sym (asked-first bank file definitions brought.first brought.behind brought.front p q few first)
              ∙ sym (behind-front file p asked.room asked.each)
              ∙ asked.again file;
        }

    -- and where it has no macro, it is one of those that were asked for
    pub asked-next : arrived None q ≡ arrival bank (replacement definitions [] next) p → AreAsked bank definitions tokens (take (count + 1) words) begun q
    asked-next found =
        let before = asked-again (ap (λ (r : Reached × Option (Option (List Token))). r.0) found) in
        record {
          room = before.room;
          each = All-more (IsAsked bank definitions q) words count [] here before.each (asked-now bank definitions p q next found);
          again = before.again;
        }
