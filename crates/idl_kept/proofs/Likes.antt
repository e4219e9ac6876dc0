-- What is kept of blocks that are alike, whatever units are around boundaries in them.
use Rattle.std.proofs.Common.{◌≡◌, ◌∙◌, ◌^◌, ℕ, ◌&&◌, Bool, true, false, List, [], ◌∷◌, Option, Some, refl, sym, take, ap, if◌then◌else◌}
use Rattle.std.proofs.lemmas.List.Elements.{All-cons, All-contains, All-contains_itself, All-head, All-nil, All-tail, All-weaker}
use Rattle.std.specs.Cmp.Lexicographic.{lists_equiv, pointwise}
use Rattle.std.specs.Hash as fed
use Rattle.std.specs.Option.{is_none, option_eq}
use Rattle.std.specs.Prelude.{All, Any, Contains}
use Rattle.idl_base.specs.Exact.{both, same_list, same_option}
use Rattle.idl_env.specs.SameAnswer.{answer_eq, same_answer}
use Rattle.idl_env.specs.contracts.answering.answer.AnswerEq.TheImpl.Laws.{laws-law as answer_equiv}
use Rattle.idl_env.specs.declared.answering.answer.Answer.{Answer}
use Rattle.idl_env.specs.declared.keys.key.Key.{Key}
use Rattle.idl_kept.specs.Texts.{BlockResult, is_like}
use Rattle.idl_memo.proofs.FreshTasks.{option_eq-itself}
use Rattle.idl_memo.specs.Kept.{IsAlike, NoneAlikeAt}
use Rattle.idl_memo.specs.Query.{HoldsIn}
use Rattle.idl_memo.specs.Runs.{first_other}
use Rattle.idl_root_blocks.proofs.Likes.{like-writes, plain-itself}
use Rattle.idl_root_blocks.specs.Blocks.{has_enclosed, part_writes, plain_text, text_hint}
use Rattle.idl_root_blocks.specs.Met.{IsLike, block_text_eq}
use Rattle.idl_root_blocks.specs.Places.{BlockPlace}
use Rattle.idl_root_blocks.specs.contracts.text.BlockPartDatum.TheImpl.Laws.{same-law as same_part}
use Rattle.idl_root_blocks.specs.contracts.text.BlockPartEq.TheImpl.Laws.{laws-law as part_equiv}
use Rattle.idl_root_blocks.specs.contracts.text.BlockPartPartialEq.TheImpl.{ghosts as parts}
use Rattle.idl_root_blocks.specs.declared.text.BlockPart.{BlockPart as Part}

abbrev Log : Type 0
Log = List (Key × Option Answer)

-- a log holds just where no answer of it is another than the bank's
none-other : (bank : Key → Option Answer) (log : Log) → is_none (first_other answer_eq bank log) ≡ true → HoldsIn bank log
none-other bank [] h = All-nil (λ e. e.1 ≡ bank e.0)
none-other bank (e ∷ log) h = by (option_eq answer_eq e.1 (bank e.0)) refl h (none-other bank log)
  where
    by : (b : Bool) → option_eq answer_eq e.1 (bank e.0) ≡ b → is_none (if b then first_other answer_eq bank log else Some (e.1, bank e.0)) ≡ true
        → (is_none (first_other answer_eq bank log) ≡ true → HoldsIn bank log) → HoldsIn bank (e ∷ log)
    by true is h later = All-cons (λ e. e.1 ≡ bank e.0) e log (same_option answer_eq same_answer e.1 (bank e.0) is) (later h)
    by false is h later = (let no : false ≡ true = h in cc)

holds-all : (bank : Key → Option Answer) (log : Log) → HoldsIn bank log → is_none (first_other answer_eq bank log) ≡ true
holds-all bank [] h = refl
holds-all bank (e ∷ log) h =
    let is : option_eq answer_eq e.1 (bank e.0) ≡ true = ap (option_eq answer_eq e.1) (sym (All-head (λ e. e.1 ≡ bank e.0) e log h)) ∙ option_eq-itself answer_eq answer_equiv.refl e.1 in
    ap (λ b. is_none (if b then first_other answer_eq bank log else Some (e.1, bank e.0))) is ∙ holds-all bank log (All-tail (λ e. e.1 ≡ bank e.0) e log h)

module _ (here : BlockPlace) where
  -- the test tells which are alike
  tested : (kept : BlockResult) → is_like here kept ≡ true → IsLike here kept
  tested kept h =
      let t = both (block_text_eq kept.text here.0) (is_none (first_other answer_eq here.1 kept.log)) h in
      record { text_is = same_list parts.eq same_part (plain_text kept.text) (plain_text here.0) t.0; answers = none-other here.1 kept.log t.1 }

  passes : (kept : BlockResult) → IsLike here kept → is_like here kept ≡ true
  passes kept like =
      let text : block_text_eq kept.text here.0 ≡ true = ap (pointwise parts.eq (plain_text kept.text)) (sym like.text_is) ∙ (lists_equiv part_equiv).refl (plain_text kept.text) in
      (λ i. text i && is_none (first_other answer_eq here.1 kept.log)) ∙ holds-all here.1 kept.log like.answers

  pub some-like : (results : List BlockResult) → Any (λ kept. is_like here kept ≡ true) results → Any (IsLike here) results
  some-like results a = (a.0, a.1, a.2, a.3, tested a.1 a.4)

  -- under this hint it isn't found
  abbrev pub HasNone : ℕ → BlockResult → Type 0
  HasNone hint kept = fed.slice part_writes (take 8 kept.text) ≡ fed.slice part_writes (take 8 here.0) → text_hint kept.text ≡ hint → is_like here kept ≡ false

  module _ (kept : BlockResult) (like : IsLike here kept) where
    missed : (hint : ℕ) → HasNone hint kept → text_hint kept.text ≡ hint → ⊥
    missed hint none at = (let no : true ≡ false = sym (passes kept like) ∙ none (like-writes kept.text here.0 like.text_is) at in cc)

    missed-plain : has_enclosed kept.text ≡ false → (has_enclosed here.0 ≡ true → HasNone 0 kept) → ¬ IsAlike here.0 here.1 kept → (b : Bool) → has_enclosed here.0 ≡ b → ⊥
    missed-plain own plain none true is = missed 0 (plain is) (ap (λ (b : Bool). if b then 2 ^ 32 else 0) own)
    missed-plain own plain none false is = none (record { text_is = sym (plain-itself kept.text own) ∙ like.text_is ∙ plain-itself here.0 is; answers = like.answers })

    missed-any : HasNone (2 ^ 32) kept → (has_enclosed here.0 ≡ true → HasNone 0 kept) → ¬ IsAlike here.0 here.1 kept → (b : Bool) → has_enclosed kept.text ≡ b → ⊥
    missed-any enclosed plain none true own = missed (2 ^ 32) enclosed (ap (λ (b : Bool). if b then 2 ^ 32 else 0) own)
    missed-any enclosed plain none false own = missed-plain own plain none (has_enclosed here.0) refl

  -- where none is found with an enclosed boundary, nor one without if one is enclosed here, and none has this very text, none is alike
  pub none-like : (results : List BlockResult) → All (HasNone (2 ^ 32)) results → (has_enclosed here.0 ≡ true → All (HasNone 0) results) → NoneAlikeAt here results → All (λ kept. ¬ IsLike here kept) results
  none-like results enclosed plain none =
      All-weaker (Contains results) (λ kept. ¬ IsLike here kept)
      (λ kept c like. missed-any kept like (All-contains (HasNone (2 ^ 32)) results kept enclosed c) (λ is. All-contains (HasNone 0) results kept (plain is) c)
      (All-contains (λ k. ¬ IsAlike here.0 here.1 k) results kept none c) (has_enclosed kept.text) refl)
      results (All-contains_itself results)
