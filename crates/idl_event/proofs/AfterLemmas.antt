-- Where one comes to with tokens of a text, as many as the limits leave.
use Rattle.std.proofs.Common.{◌≡◌, ℕ, zero, suc, ◌+◌, ◌-◌, ◌≤◌, false, nat_eq, if◌then◌else◌, List, [], ◌∷◌, ◌++◌, length, map, Option, None, Some, refl, sym, ap, ◌∙◌, arith, append-nil, append_assoc}
use Rattle.std.proofs.Math.Dec.{eqb-suc-zero}
use Rattle.idl_memo.specs.Progress.{after_item, with_item}
use Rattle.idl_event.specs.Expanding.{Reached, after_text}
use Rattle.idl_event.specs.Apart.{emitted_in}
use Rattle.idl_event.specs.Items.{rules, spend, tokens_left}
use Rattle.idl_event.specs.declared.told.allowance.Allowance.{Allowance}
use Rattle.idl_event.specs.declared.told.event.Event.{Event}
use Rattle.idl_event.specs.declared.told.event.Event.TheVariants.{Emitted}
use Rattle.idl_event.specs.declared.told.event.Item.TheVariants.{Kept}
use Rattle.idl_fault.specs.declared.place.Place.{Place}
use Rattle.idl_fault.specs.declared.file_name.FileName.{FileName}
use Rattle.idl_lex.specs.tokens.Tokens.{Token}
use Rattle.idl_lex.specs.declared.tokens.token.PlacedToken.{PlacedToken}

not-zero : (n k : ℕ) → suc k ≤ n → nat_eq n 0 ≡ false
not-zero zero k le = absurd (omega (arith, le))
not-zero (suc n) k le = eqb-suc-zero n

-- with these events more, and so many tokens less
abbrev with_tokens : List Event → ℕ → Allowance → Reached → Reached
with_tokens events count left p = record {
  kept = p.kept ++ events;
  left = Some (record { turns = left.turns; tokens = left.tokens - count });
  log = p.log;
}

-- one token
pub after-token : (place : Place) (t : Token) (p : Reached) (left : Allowance) (k : ℕ) → p.left ≡ Some left → suc k ≤ left.tokens
    → after_item rules (Kept (Emitted place t)) p ≡ with_tokens (Emitted place t ∷ []) 1 left p
after-token place t p left k going le =
    ap (λ (o : Option Allowance). elim o [ None ↦ p | Some l ↦ with_item rules p (Kept (Emitted place t)) (spend l (Kept (Emitted place t))) ]) going
    ∙ ap (λ b. with_item rules p (Kept (Emitted place t)) (if b then None else Some (record left { tokens = left.tokens - 1 }))) (not-zero left.tokens k le)

-- and all of a text
pub after_text-within : (file : FileName) (ts : List PlacedToken) (p : Reached) (left : Allowance) → p.left ≡ Some left → length ts ≤ left.tokens
    → after_text file ts p ≡ with_tokens (map (emitted_in file) ts) (length ts) left p
after_text-within file [] p left going le =
    let none : left.tokens ≡ left.tokens - 0 = omega arith in
    λ j. record {
      kept = sym (append-nil p.kept) j;
      left = (going ∙ ap (λ n. Some (record left { tokens = n })) none) j;
      log = p.log;
    }
after_text-within file (t ∷ ts) p left going le =
    let less : left.tokens - 1 - length ts ≡ left.tokens - length (t ∷ ts) = omega arith in
    let e = emitted_in file t in
    let q = with_tokens (e ∷ []) 1 left p in
    ap (after_text file ts) (after-token (record { file = file; line = t.line }) t.token p left (length ts) going le)
    ∙ after_text-within file ts q (record left { tokens = left.tokens - 1 }) refl (omega (arith, le))
    ∙ (λ j. record {
      kept = append_assoc p.kept (e ∷ []) (map (emitted_in file) ts) j;
      left = Some (record left { tokens = less j });
      log = p.log;
    })

-- two texts, end to end
pub after_text-append : (file : FileName) (front behind : List PlacedToken) (p : Reached) → after_text file (front ++ behind) p ≡ after_text file behind (after_text file front p)
after_text-append file [] behind p = refl
after_text-append file (t ∷ front) behind p = after_text-append file front behind (after_item rules (Kept (emitted_in file t)) p)

-- a text leaves room for as many tokens more as there was
pub room-behind : (file : FileName) (ts : List PlacedToken) (p : Reached) (n : ℕ) → length ts + n ≤ tokens_left p.left → n ≤ tokens_left (after_text file ts p).left
room-behind file ts p n le = by p.left refl le
  where
    by : (o : Option Allowance) → p.left ≡ o → length ts + n ≤ tokens_left o → n ≤ tokens_left (after_text file ts p).left
    by None over le = omega (arith, le)
    by (Some left) going le =
        let rest : tokens_left (after_text file ts p).left ≡ left.tokens - length ts =
        ap (λ (r : Reached). tokens_left r.left) (after_text-within file ts p left going (omega (arith, le))) in
        omega (arith, le, rest)
