-- Where a root comes to by the lines of a file.
use Rattle.std.proofs.Common.{◌≡◌, ℕ, zero, suc, List, [], Option, None, map, refl, ap, sym, ◌∙◌}
use Rattle.std.specs.Option.{option_map}
use Rattle.idl_memo.specs.Query.{Done, Tell, and_then}
use Rattle.idl_lex.specs.tokens.Tokens.{lines_of}
use Rattle.idl_lex.specs.declared.tokens.token.PlacedToken.{PlacedToken}
use Rattle.idl_fault.specs.declared.file_name.FileName.{FileName}
use Rattle.idl_event.specs.declared.told.event.Event.TheVariants.{Entered, Left}
use Rattle.idl_event.specs.declared.told.event.Item.TheVariants.{TooDeep, Kept}
use Rattle.idl_event.specs.declared.asked.key.RootAnswer.{RootAnswer}
use Rattle.idl_event.specs.declared.asked.key.RootKey.{RootKey}
use Rattle.idl_fault.specs.declared.place.Place.{Place}
use Rattle.idl_text.specs.Line.{lines_in, read}
use Rattle.idl_text.specs.Tree.{part, tree}
use Rattle.idl_prep.specs.Directive.{Enter}
use Rattle.idl_prep.specs.Pass.{coming, to_come}
use Rattle.idl_prep.specs.Root.{enter, walk_file}
use Rattle.idl_prep.specs.State.{Said, Way, ended, onward, telling}
use Rattle.idl_prep.specs.declared.walk.groups.Group.{Group}
use Rattle.idl_prep.proofs.WalkLaws.WalkLemmas.{onward-then}
use Rattle.idl_prep.proofs.WalkLaws.WayLemmas.{arrival-over}
use Rattle.idl_event.specs.Expanding.{Expanding}

module _ (bank : RootKey → Option RootAnswer) where
  -- once a limit was passed a root is where it comes to by anything
  pub ended-over : (query : Said → Expanding Said) (way : Way) → way.progress.left ≡ None → ended way ≡ onward bank query way
  ended-over query way over =
      ap (λ o. (way.progress, option_map (λ _. way.state) o)) over ∙ sym (arrival-over bank (query way.state) way.progress over)

  -- what is to come of a whole file
  pub to_come-file : (next : Enter) (file : FileName) (lines : List (List ℕ)) (way : Way) → to_come bank next file [] (lines_in lines) way ≡ onward bank (walk_file next file lines) way
  unfolding coming tree
  to_come-file next file lines way = refl

  -- what is to come after its last line
  pub to_come-no_line : (next : Enter) (file : FileName) (gs : List Group) (tokens : List PlacedToken) (way : Way) → tokens ≡ []
      → to_come bank next file gs (map read (lines_of tokens)) way ≡ onward bank (coming next file gs (part [])) way
  unfolding lines_of
  to_come-no_line next file gs tokens way none = ap (λ ts. to_come bank next file gs (map read (lines_of ts)) way) none

  -- a file is entered, and left when its lines are done
  pub onward-enter : (room less : ℕ) (place : Place) (file : FileName) (lines : List (List ℕ)) (old told mid new : Way) → room ≡ suc less
      → told ≡ telling (Kept (Entered file)) old → ended mid ≡ onward bank (walk_file (enter less) file lines) told → new ≡ telling (Kept (Left file)) mid
      → ended new ≡ onward bank (enter room place file lines) old
  unfolding enter
  onward-enter room less place file lines old told mid new is enters came leaves =
      let query = walk_file (enter less) file lines in
      let leave : Said → Expanding Said = λ after. Tell (Kept (Left file)) (Done after) in
      ap ended leaves
      ∙ onward-then bank query leave (λ s. and_then (query s) leave) told mid came refl
      ∙ ap (onward bank (λ s. and_then (query s) leave)) enters
      ∙ ap (λ n. onward bank (enter n place file lines) old) (sym is)

  -- a file is too deep
  pub onward-too_deep : (room : ℕ) (place : Place) (file : FileName) (lines : List (List ℕ)) (old new : Way) → room ≡ zero → new ≡ telling (TooDeep place) old
      → ended new ≡ onward bank (enter room place file lines) old
  unfolding enter
  onward-too_deep room place file lines old new is tells = ap ended tells ∙ ap (λ n. onward bank (enter n place file lines) old) (sym is)
