-- Lines of text, one after another.
use Rattle.std.proofs.Common.{◌≡◌, ◌∙◌, ◌++◌, ◌∷◌, true, false, Option, List, [], flat_map, map, refl, sym, ap}
use Rattle.idl_memo.specs.Query.{Done}
use Rattle.idl_event.specs.Expanding.{Reached, reached}
use Rattle.idl_fault.specs.declared.file_name.FileName.{FileName}
use Rattle.idl_event.specs.declared.asked.key.RootAnswer.{RootAnswer}
use Rattle.idl_event.specs.declared.asked.key.RootKey.{RootKey}
use Rattle.idl_text.specs.Line.{Line, Text}
use Rattle.idl_lex.specs.declared.tokens.token.PlacedToken.{PlacedToken}
use Rattle.idl_macro.proofs.ReplaceLemmas.{reached-text-append, reached-text-nil}
use Rattle.idl_macro.specs.Replace.{text}
use Rattle.idl_prep.specs.Directive.{Enter, effect}
use Rattle.idl_prep.specs.Pass.{is_walked, to_come}
use Rattle.idl_prep.specs.State.{Way, ended, onward}
use Rattle.idl_prep.specs.declared.walk.groups.Group.{Group}
use Rattle.idl_prep.proofs.WalkLaws.WalkLemmas.{to_come-act, to_come-skipped}
use Rattle.idl_prep.proofs.WalkLaws.WayLemmas.{arrival-and_then}

module _ (bank : RootKey → Option RootAnswer) (enter : Enter) (file : FileName) where
  -- with the tokens of a text
  abbrev pub texted : List PlacedToken → Way → Way
  texted tokens way = record way { progress = reached bank (text file way.state.definitions tokens) way.progress }

  -- one line comes to that
  texted-line : (line : List PlacedToken) (way : Way) → ended (texted line way) ≡ onward bank (effect enter file (Text line)) way
  unfolding effect
  texted-line line way = sym (arrival-and_then bank (text file way.state.definitions line) (λ given. Done way.state) way.progress)

  module _ (gs : List Group) (lines : List Line) where
    -- and so do many, where they are walked
    pub to_come-texts : (texts : List (List PlacedToken)) (way : Way) → is_walked gs ≡ true
        → to_come bank enter file gs lines (texted (flat_map (λ line. line) texts) way) ≡ to_come bank enter file gs (map Text texts ++ lines) way
    to_come-texts [] way walked = ap (λ (p : Reached). to_come bank enter file gs lines (record way { progress = p })) (reached-text-nil bank file way.state.definitions way.progress)
    to_come-texts (line ∷ texts) way walked =
        let next = texted line way in
        ap (λ (p : Reached). to_come bank enter file gs lines (record way { progress = p })) (reached-text-append bank file way.state.definitions line (flat_map (λ line. line) texts) way.progress)
        ∙ to_come-texts texts next walked
        ∙ to_come-act bank enter file gs (Text line) (map Text texts ++ lines) refl way next walked (texted-line line way)

    -- where they are skipped nothing comes of them
    pub to_come-texts-skipped : (texts : List (List PlacedToken)) (way : Way) → is_walked gs ≡ false
        → to_come bank enter file gs lines way ≡ to_come bank enter file gs (map Text texts ++ lines) way
    to_come-texts-skipped [] way skipped = refl
    to_come-texts-skipped (line ∷ texts) way skipped =
        to_come-texts-skipped texts way skipped ∙ to_come-skipped bank enter file gs (Text line) (map Text texts ++ lines) refl way skipped
