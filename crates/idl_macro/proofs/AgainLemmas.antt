-- A token whose macro is looked for a second time.
use Rattle.std.proofs.Common.{◌≡◌, ℕ, ◌+◌, Bool, true, false, cond, not, ◌&&◌, ◌||◌, if◌then◌else◌, List, [], ◌∷◌, ◌++◌, Option, None, Some, is_some, refl, sym, ap, ◌∙◌}
use Rattle.std.specs.Cmp.Lexicographic.{bytes_decides}
use Rattle.std.specs.List.{list_any}
use Rattle.std.specs.Map.{lookup}
use Rattle.std.specs.Str.{bytes_eq}
use Rattle.std.proofs.lemmas.List.Folds.{list_any-append}
use Rattle.idl_memo.specs.Progress.{after_item, after_key}
use Rattle.idl_memo.proofs.ProgressLaws.{progress_after-over}
use Rattle.idl_memo.specs.Query.{Done, Ask, Tell, is_logged, noted, outcome}
use Rattle.idl_event.specs.Expanding.{Expanding, Reached, arrival, arrived, reached}
use Rattle.idl_event.specs.Items.{rules}
use Rattle.idl_event.specs.Key.{key_code, key_eq}
use Rattle.idl_event.specs.Limits.{turns_at_most}
use Rattle.idl_event.specs.declared.told.allowance.Allowance.{Allowance}
use Rattle.idl_event.specs.declared.told.event.Item.{Item}
use Rattle.idl_event.specs.declared.asked.key.RootAnswer.{RootAnswer}
use Rattle.idl_event.specs.declared.asked.key.RootKey.{RootKey}
use Rattle.idl_event.specs.declared.asked.key.RootKey.TheVariants as key
use Rattle.idl_fault.specs.declared.place.Place.{Place}
use Rattle.idl_lex.specs.tokens.Tokens.{Token}
use Rattle.idl_lex.specs.kinds.Word.{is_word}
use Rattle.idl_macro.specs.Macros.{Definitions, body_in, macro_of}
use Rattle.idl_macro.specs.Replace.{replaced_at, replacement}
use Rattle.idl_macro.proofs.AllowanceLemmas.{replacement-found}
use Rattle.idl_macro.proofs.ReplaceLemmas.{made, reached-pending-first, reached-replaced}

-- nothing is there
pub no_value : {A : Type 0} (o : Option A) → is_some o ≡ false → o ≡ None
no_value None h = refl
no_value (Some x) h = cc

module _ (bank : RootKey → Option RootAnswer) (k : RootKey) where
  -- a key that is noted is logged
  logged-by : (log : List (RootKey × Option RootAnswer)) (b : Bool) → is_logged key_eq log k ≡ b → is_logged key_eq (cond b log (log ++ (k, bank k) ∷ [])) k ≡ true
  logged-by log true h = h
  logged-by log false h =
      list_any-append (λ (e : RootKey × Option RootAnswer). key_eq k e.0) log ((k, bank k) ∷ [])
      ∙ (λ i. h i || (((bytes_decides (key_code k) (key_code k)).1 refl) i || false))

  logged : (log : List (RootKey × Option RootAnswer)) → is_logged key_eq (noted key_eq bank log k) k ≡ true
  logged log = logged-by log (is_logged key_eq log k) refl

  -- so it is noted once
  noted-twice : (log : List (RootKey × Option RootAnswer)) → noted key_eq bank (noted key_eq bank log k) k ≡ noted key_eq bank log k
  noted-twice log =
      let once = noted key_eq bank log k in
      ap (λ b. cond b once (once ++ (k, bank k) ∷ [])) (logged log)

  twice-by : (p : Reached) (o : Option Allowance) → p.left ≡ o → after_key key_eq bank k (after_key key_eq bank k p) ≡ after_key key_eq bank k p
  twice-by p None over =
      let same : after_key key_eq bank k p ≡ p = progress_after-over rules key_eq bank (Ask k (λ _. Done p)) p over in
      ap (after_key key_eq bank k) same
  twice-by p (Some left) going =
      let after : List (RootKey × Option RootAnswer) → Reached = λ log. record p { log = noted key_eq bank log k } in
      let once : after_key key_eq bank k p ≡ after p.log = ap (λ (o : Option Allowance). elim o [ None ↦ p | Some left ↦ after p.log ]) going in
      ap (after_key key_eq bank k) once
      ∙ ap (λ (o : Option Allowance). elim o [ None ↦ after p.log | Some left ↦ after (noted key_eq bank p.log k) ]) going
      ∙ ap (λ (log : List (RootKey × Option RootAnswer)). record p { log = log }) (noted-twice p.log)
      ∙ sym once

  -- a key is asked a second time: nothing is noted
  after_key-twice : (p : Reached) → after_key key_eq bank k (after_key key_eq bank k p) ≡ after_key key_eq bank k p
  after_key-twice p = twice-by p p.left refl

module _ (bank : RootKey → Option RootAnswer) (definitions : Definitions) where
  -- nor is where the macro of a word is looked for
  twice-said : (word : List ℕ) (p : Reached) (said : Option (Option (List Token)))
      → let query : Expanding (Option (List Token)) = elim said [ None ↦ Ask (key.Macro word) (λ found. Done (body_in found)) | Some body ↦ Done body ] in
      reached bank query (reached bank query p) ≡ reached bank query p
  twice-said word p None = after_key-twice bank (key.Macro word) p
  twice-said word p (Some body) = refl

  twice-macro_of : (word : List ℕ) (p : Reached) → reached bank (macro_of definitions word) (reached bank (macro_of definitions word) p) ≡ reached bank (macro_of definitions word) p
  unfolding macro_of
  twice-macro_of word p = twice-said word p (lookup (bytes_eq word) definitions)

  twice-if : (word : List ℕ) (p : Reached) (c : Bool)
      → let query : Expanding (Option (List Token)) = if c then macro_of definitions word else Done None in
      reached bank query (reached bank query p) ≡ reached bank query p
  twice-if word p true = twice-macro_of word p
  twice-if word p false = refl

  -- nor where the body of a token is
  pub twice-replacement : (hidden : List (List ℕ)) (t : Token) (p : Reached)
      → reached bank (replacement definitions hidden t) (reached bank (replacement definitions hidden t) p) ≡ reached bank (replacement definitions hidden t) p
  unfolding replacement
  twice-replacement hidden t p = twice-if t p (is_word t && not (list_any (bytes_eq t) hidden))

  module _ (item : Token → Item) (place : Place) (t : Token) where
    -- what a token comes to, where its body was looked for
    one_token : (p : Reached) → reached bank (replaced_at item place definitions (t ∷ [])) p
        ≡ reached bank (made bank item place definitions 0 turns_at_most [] t (outcome (replacement definitions [] t) bank)) (reached bank (replacement definitions [] t) p)
    one_token p =
        reached-pending-first bank item place definitions (turns_at_most + 1) [] t [] p
        ∙ reached-replaced bank item place definitions 0 (turns_at_most + 1) turns_at_most [] t (outcome (replacement definitions [] t) bank) p refl refl

    -- a token is replaced after its body was looked for
    pub reached-replaced_at-again : (p q : Reached) → q ≡ reached bank (replacement definitions [] t) p
        → reached bank (replaced_at item place definitions (t ∷ [])) q ≡ reached bank (replaced_at item place definitions (t ∷ [])) p
    reached-replaced_at-again p q asked =
        let rest = made bank item place definitions 0 turns_at_most [] t (outcome (replacement definitions [] t) bank) in
        one_token q
        ∙ ap (λ (r : Reached). reached bank rest (reached bank (replacement definitions [] t) r)) asked
        ∙ ap (reached bank rest) (twice-replacement [] t p)
        ∙ sym (one_token p)

    stands-by : (p q : Reached) (o : Option Allowance) → p.left ≡ o → arrived None q ≡ arrival bank (replacement definitions [] t) p
        → after_item rules (item t) q ≡ reached bank (replaced_at item place definitions (t ∷ [])) p
    stands-by p q None over asked =
        let same : q ≡ p = ap (λ (r : Reached × Option (Option (List Token))). r.0) asked ∙ progress_after-over rules key_eq bank (replacement definitions [] t) p over in
        ap (after_item rules (item t)) same
        ∙ progress_after-over rules key_eq bank (Tell (item t) (Done p)) p over
        ∙ sym (progress_after-over rules key_eq bank (replaced_at item place definitions (t ∷ [])) p over)
    stands-by p q (Some left) going asked =
        let none : outcome (replacement definitions [] t) bank ≡ None = replacement-found bank definitions [] t None p q (λ over. let no = sym going ∙ over in cc) asked in
        ap (λ (r : Reached × Option (Option (List Token))). after_item rules (item t) r.0) asked
        ∙ sym (one_token p ∙ ap (λ (body : Option (List Token)). reached bank (made bank item place definitions 0 turns_at_most [] t body) (reached bank (replacement definitions [] t) p)) none)

    -- a token without a body stands for itself
    pub reached-replaced_at-stands : (p q : Reached) → arrived None q ≡ arrival bank (replacement definitions [] t) p
        → after_item rules (item t) q ≡ reached bank (replaced_at item place definitions (t ∷ [])) p
    reached-replaced_at-stands p q asked = stands-by p q p.left refl asked
