-- A kept result is alike at a place just where nothing in its order tells it from the result there.
use Rattle.std.proofs.Common.{◌≡◌, Bool, List, [], ◌∷◌, refl, sym, ap, ◌∙◌}
use Rattle.std.specs.Ordering.{ordering_then}
use Rattle.std.specs.declared.cmp.Ordering.{Ordering}
use Rattle.std.specs.declared.cmp.Ordering.TheVariants.{Less, Equal, Greater}
use Rattle.std.proofs.lemmas.Cmp.{tied_itself}
use Rattle.std.proofs.lemmas.List.{append-nil}
use Rattle.std.proofs.lemmas.List.Elements.{All-cons, All-nil}
use Rattle.idl_memo.specs.Kept.{Kept, IsAlike, IsSound, result_over}
use Rattle.idl_store.specs.Order.{bank_cmp, logs_cmp, place_cmp, results_cmp}
use Rattle.idl_memo.specs.Query.{Query, HoldsIn, asked, noted_all}
use Rattle.idl_memo.proofs.Placing.{result_over-alike}
use Rattle.idl_store.proofs.Exactness.{IsExact}
use Rattle.idl_store.proofs.Ordered.{bank_cmp-front, stands}

-- where two orders one after the other tell nothing apart, neither does
then_equal : (o p : Ordering) → ordering_then o p ≡ Equal → (o ≡ Equal) × (p ≡ Equal)
then_equal Less p h = absurd (cc)
then_equal Equal p h = (refl, h)
then_equal Greater p h = absurd (cc)

-- a log that doesn't stand before or behind a bank holds in it
holds-equal : {K V : Type 0} (answer_cmp : V → V → Ordering) → ((v w : V) → answer_cmp v w ≡ Equal → v ≡ w) → (log : List (K × V)) (bank : K → V) → bank_cmp answer_cmp log bank ≡ Equal → HoldsIn bank log
holds-equal answer_cmp exact [] bank h = All-nil (λ e. e.1 ≡ bank e.0)
holds-equal answer_cmp exact (e ∷ log) bank h =
    let both = then_equal (answer_cmp e.1 (bank e.0)) (bank_cmp answer_cmp log bank) h in
    All-cons (λ e. e.1 ≡ bank e.0) e log (exact e.1 (bank e.0) both.0) (holds-equal answer_cmp exact log bank both.1)

module _ {K V T O : Type 0} {text_cmp : T → T → Ordering} {answer_cmp : V → V → Ordering} {eq : K → K → Bool} (exact : IsExact text_cmp answer_cmp eq) where
  -- one that is alike stands where the place does
  pub equal-alike : (kept : Kept K V T O) (text : T) (bank : K → V) → IsAlike text bank kept → place_cmp text_cmp answer_cmp kept text bank ≡ Equal
  equal-alike kept text bank alike =
      let at : text_cmp kept.text text ≡ Equal = ap (text_cmp kept.text) (sym alike.text_is) ∙ tied_itself exact.texts kept.text in
      ap (λ o. ordering_then o (bank_cmp answer_cmp kept.log bank)) at
      ∙ ap (λ l. bank_cmp answer_cmp l bank) (sym (append-nil kept.log))
      ∙ bank_cmp-front answer_cmp (tied_itself exact.answers) kept.log [] bank alike.answers

  -- and one that stands there is alike
  pub alike-equal : (kept : Kept K V T O) (text : T) (bank : K → V) → place_cmp text_cmp answer_cmp kept text bank ≡ Equal → IsAlike text bank kept
  alike-equal kept text bank h =
      let both = then_equal (text_cmp kept.text text) (bank_cmp answer_cmp kept.log bank) h in
      record { text_is = exact.text_is kept.text text both.0; answers = holds-equal answer_cmp exact.answer_is kept.log bank both.1 }

  module _ {X : Type 0} (query : T → Query K V X O) where
    -- how a result stands to a place is how it stands to the result there
    pub place-result : (kept : Kept K V T O) (text : T) (bank : K → V) → IsSound eq query kept → place_cmp text_cmp answer_cmp kept text bank ≡ results_cmp text_cmp answer_cmp kept (result_over eq query (text, bank))
    place-result kept text bank sound = by (text_cmp kept.text text) refl
      where
        log_is : kept.log ≡ noted_all eq sound.0 [] (asked (query kept.text) sound.0)
        log_is = ap (λ r. r.1) sound.1

        here : bank_cmp answer_cmp kept.log bank ≡ logs_cmp answer_cmp kept.log (noted_all eq bank [] (asked (query kept.text) bank))
        here =
            ap (λ l. bank_cmp answer_cmp l bank) log_is
            ∙ stands answer_cmp (tied_itself exact.answers) exact.answer_is eq exact.key_is (query kept.text) sound.0 bank [] (All-nil (λ e. e.1 ≡ sound.0 e.0)) (All-nil (λ e. e.1 ≡ bank e.0))
            ∙ ap (λ l. logs_cmp answer_cmp l (noted_all eq bank [] (asked (query kept.text) bank))) (sym log_is)

        by : (o : Ordering) → text_cmp kept.text text ≡ o → ordering_then (text_cmp kept.text text) (bank_cmp answer_cmp kept.log bank) ≡ ordering_then (text_cmp kept.text text) (logs_cmp answer_cmp kept.log (noted_all eq bank [] (asked (query text) bank)))
        by Less h = rw h refl
        by Greater h = rw h refl
        by Equal h =
            ap (ordering_then (text_cmp kept.text text)) (here ∙ ap (λ t. logs_cmp answer_cmp kept.log (noted_all eq bank [] (asked (query t) bank))) (exact.text_is kept.text text h))

    -- results in one place of the order are one
    pub equal-results : (kept other : Kept K V T O) → IsSound eq query kept → IsSound eq query other → results_cmp text_cmp answer_cmp kept other ≡ Equal → kept ≡ other
    equal-results kept other sound there h =
        let bank = there.0 in
        let is : other ≡ result_over eq query (other.text, bank) = λ i. record { text = other.text; log = (there.1 i).1; out = (there.1 i).0 } in
        let tie : place_cmp text_cmp answer_cmp kept other.text bank ≡ Equal = place-result kept other.text bank sound ∙ ap (results_cmp text_cmp answer_cmp kept) (sym is) ∙ h in
        result_over-alike eq query exact.key_itself exact.key_is (other.text, bank) kept sound (alike-equal kept other.text bank tie) ∙ sym is
