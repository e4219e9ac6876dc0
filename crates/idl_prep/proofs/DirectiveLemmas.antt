-- What directives of one line come to.
use Rattle.std.proofs.Common.{◌≡◌, ℕ, Bool, true, false, List, ◌∷◌, Option, None, Some, codes, if◌then◌else◌, ap, sym, ◌∙◌}
use Rattle.std.specs.List.{list_any}
use Rattle.std.specs.Str.{bytes_eq}
use Rattle.indexmap.specs.IndexSet.{insert_key}
use Rattle.idl_memo.specs.Query.{Done, Tell}
use Rattle.idl_event.specs.Expanding.{Expanding, Reached, arrival, arrived}
use Rattle.idl_fault.specs.declared.file_name.FileName.{FileName}
use Rattle.idl_event.specs.declared.told.event.Event.TheVariants.{Pragma}
use Rattle.idl_event.specs.declared.told.event.Item.TheVariants as item
use Rattle.idl_event.specs.declared.asked.key.RootAnswer.{RootAnswer}
use Rattle.idl_event.specs.declared.asked.key.RootKey.{RootKey}
use Rattle.idl_lex.specs.tokens.Tokens.{tokens_in}
use Rattle.idl_macro.specs.Replace.{place_at}
use Rattle.idl_text.specs.Line.{Directive, Directed}
use Rattle.idl_text.specs.declared.groups.kind.DirectiveKind.{DirectiveKind}
use Rattle.idl_text.specs.declared.groups.kind.DirectiveKind.TheVariants.{Alone}
use Rattle.idl_text.specs.declared.groups.kind.Plain.{Plain}
use Rattle.idl_prep.specs.Directive.{Enter, effect, entering, first_spelling, include, including, is_of_idl, plain_effect, plain_or, pragma, pragma_by}
use Rattle.idl_prep.specs.Include.{Found, Operand, file_of, operand_of}
use Rattle.idl_prep.specs.Place.{place_in}
use Rattle.idl_prep.specs.State.{Said, Way, ended, onward, telling}
use Rattle.idl_prep.proofs.WalkLaws.WayLemmas.{arrival-then}

module _ (bank : RootKey → Option RootAnswer) (enter : Enter) (file : FileName) (d : Directive) where
  -- a directive of one line: a turn, and what it does
  pub acted : (what kind : Plain) (way turned : Way) (came : Reached × Option Said) → d.kind ≡ Alone what → what ≡ kind
      → turned ≡ telling (item.Turn (place_in file d)) way → came ≡ onward bank (λ s. plain_effect enter file d s kind) turned → came ≡ onward bank (effect enter file (Directed d)) way
  unfolding effect
  acted what kind way turned came alone is told done =
      done
      ∙ ap (onward bank (λ s. plain_effect enter file d s kind)) told
      ∙ ap (λ (k : DirectiveKind). onward bank (λ s. plain_or enter file d s k) (telling (item.Turn (place_in file d)) way)) (sym (alone ∙ ap Alone is))

  -- the operand of an include is read first
  pub onward-including : (o : Option Operand) (way way' : Way) → way'.state ≡ way.state
      → arrived o way'.progress ≡ arrival bank (operand_of (place_in file d) way.state.definitions d.operands) way.progress
      → onward bank (λ s. including enter file d s o) way' ≡ onward bank (include enter file d) way
  unfolding include
  onward-including o way way' same came =
      ap (λ (s : Said). arrival bank (including enter file d s o) way'.progress) same
      ∙ arrival-then bank (operand_of (place_in file d) way.state.definitions d.operands) (including enter file d way.state) o way.progress way'.progress came

  -- then its file is looked for
  pub onward-entering : (o : Operand) (f : Option Found) (way way' : Way) → way'.state ≡ way.state → arrived f way'.progress ≡ arrival bank (file_of file o) way.progress
      → onward bank (λ s. entering enter (place_in file d) o s f) way' ≡ onward bank (λ s. including enter file d s (Some o)) way
  onward-entering o f way way' same came =
      ap (λ (s : Said). arrival bank (entering enter (place_in file d) o s f) way'.progress) same
      ∙ arrival-then bank (file_of file o) (entering enter (place_in file d) o way.state) f way.progress way'.progress came

  -- and it is entered, unless it isn't to be entered again
  pub onward-entering-once : (o : Operand) (f : Found) (way : Way) → list_any (bytes_eq f.name) way.state.once ≡ true
      → ended way ≡ onward bank (λ s. entering enter (place_in file d) o s (Some f)) way
  onward-entering-once o f way once = ap (λ b. arrival bank (if b then Done way.state else enter (place_in file d) f.name f.lines way.state) way.progress) (sym once)

  pub onward-entering-new : (o : Operand) (f : Found) (way : Way) → list_any (bytes_eq f.name) way.state.once ≡ false
      → onward bank (enter (place_in file d) f.name f.lines) way ≡ onward bank (λ s. entering enter (place_in file d) o s (Some f)) way
  onward-entering-new o f way new = ap (λ b. arrival bank (if b then Done way.state else enter (place_in file d) f.name f.lines way.state) way.progress) (sym new)

module _ (bank : RootKey → Option RootAnswer) (file : FileName) (d : Directive) (way : Way) where
  onward-pragma_by : (o : Option (List ℕ)) → first_spelling d.operands ≡ o → onward bank (λ s. pragma_by file d s o) way ≡ onward bank (pragma file d) way
  unfolding pragma
  onward-pragma_by o first = ap (λ (o : Option (List ℕ)). onward bank (λ s. pragma_by file d s o) way) (sym first)

  -- by whether the word is `once`, and else whether it means something to IDL
  abbrev by_word : Bool → Bool → Expanding Said
  by_word is_once means =
      if is_once then Done (record way.state { once = insert_key bytes_eq way.state.once file })
      else (if means then Tell (item.Kept (Pragma (place_at file d.word) (tokens_in (d.word ∷ d.operands)))) (Done way.state) else Done way.state)

  pub pragma-nothing : first_spelling d.operands ≡ None → ended way ≡ onward bank (pragma file d) way
  pragma-nothing first = onward-pragma_by None first

  pub pragma-once : (word : List ℕ) → first_spelling d.operands ≡ Some word → bytes_eq word (codes "once") ≡ true
      → ended (record way { state = record way.state { once = insert_key bytes_eq way.state.once file } }) ≡ onward bank (pragma file d) way
  pragma-once word first once = ap (λ b. arrival bank (by_word b (is_of_idl word)) way.progress) (sym once) ∙ onward-pragma_by (Some word) first

  pub pragma-of_idl : (word : List ℕ) → first_spelling d.operands ≡ Some word → bytes_eq word (codes "once") ≡ false → is_of_idl word ≡ true
      → ended (telling (item.Kept (Pragma (place_at file d.word) (tokens_in (d.word ∷ d.operands)))) way) ≡ onward bank (pragma file d) way
  pragma-of_idl word first other means =
      ap (λ b. arrival bank (by_word false b) way.progress) (sym means) ∙ ap (λ b. arrival bank (by_word b (is_of_idl word)) way.progress) (sym other) ∙ onward-pragma_by (Some word) first

  pub pragma-other : (word : List ℕ) → first_spelling d.operands ≡ Some word → bytes_eq word (codes "once") ≡ false → is_of_idl word ≡ false
      → ended way ≡ onward bank (pragma file d) way
  pragma-other word first other means =
      ap (λ b. arrival bank (by_word false b) way.progress) (sym means) ∙ ap (λ b. arrival bank (by_word b (is_of_idl word)) way.progress) (sym other) ∙ onward-pragma_by (Some word) first
