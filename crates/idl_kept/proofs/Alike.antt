-- Where the same is kept of a block at two places, it comes to the same at both.
use Rattle.std.proofs.Common.{◌≡◌, List, refl, subst, sym}
use Rattle.idl_root_blocks.specs.verdicts.Standing.{AreStanding, block_end}
use Rattle.idl_env.specs.Facts.{UnitFacts, answers}
use Rattle.idl_env.specs.SameKey.{same_key}
use Rattle.idl_env.specs.declared.keys.key.Key.{Key}
use Rattle.idl_env.specs.keys.Digested.{key_equiv}
use Rattle.idl_env.specs.keys.Key.{key_eq}
use Rattle.idl_kept.specs.Texts.{BlockResult, IsPlaced}
use Rattle.idl_memo.proofs.QueryLaws.{outcome-agree}
use Rattle.idl_memo.proofs.Telling.{Agree-over, HoldsIn-over}
use Rattle.idl_memo.specs.Query.{Agree, HoldsIn, asked}
use Rattle.idl_root_blocks.proofs.Results.{asks-block}
use Rattle.idl_root_blocks.specs.Blocks.{Pieces, parts_of, text_in}
use Rattle.idl_root_blocks.specs.Met.{IsLike}
use Rattle.idl_root_blocks.specs.Places.{BlockEnd, block_asks, block_at, block_query, block_result}

module _ (there here : List UnitFacts) (inside : Pieces) (same : block_result (block_at there inside) ≡ block_result (block_at here inside)) where
  holds-here : HoldsIn (answers here) (block_result (block_at there inside)).log
  holds-here =
      subst (λ (k : BlockResult). HoldsIn (answers here) k.log) (sym same)
      (HoldsIn-over key_eq key_equiv.refl same_key block_asks (answers here) (block_result (block_at here inside)) refl)

  pub is-alike : IsLike (block_at here inside) (block_result (block_at there inside))
  is-alike = record { text_is = refl; answers = holds-here }

  agree-here : Agree (asked (block_query (text_in inside)) (answers there)) (answers there) (answers here)
  agree-here =
      subst (λ (keys : List Key). Agree keys (answers there) (answers here)) (asks-block (text_in inside) (answers there))
      (Agree-over key_eq key_equiv.refl same_key block_asks (answers there) (answers here) (block_result (block_at there inside)) refl holds-here)

  -- what it adds there stands here
  pub stands-here : IsPlaced here inside → AreStanding here (block_end (answers there) (parts_of (text_in inside))).1
  stands-here placed =
      subst (λ (e : BlockEnd). AreStanding here e.1) (outcome-agree (block_query (text_in inside)) (answers there) (answers here) agree-here) placed.standing
