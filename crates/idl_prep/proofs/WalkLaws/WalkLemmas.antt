-- Where a root comes to, by steps that walk the next line.
use Rattle.std.proofs.Common.{◌≡◌, Bool, true, false, ◌||◌, Option, List, [], ◌∷◌, ap, sym, ◌∙◌}
use Rattle.idl_memo.specs.Query.{Tell, and_then, outcome}
use Rattle.idl_event.specs.Expanding.{Expanding, arrival, arrived, reached}
use Rattle.idl_fault.specs.declared.file_name.FileName.{FileName}
use Rattle.idl_event.specs.declared.told.event.Item.{Item}
use Rattle.idl_event.specs.declared.told.event.Item.TheVariants.{Turn}
use Rattle.idl_event.specs.declared.asked.key.RootAnswer.{RootAnswer}
use Rattle.idl_event.specs.declared.asked.key.RootKey.{RootKey}
use Rattle.idl_text.specs.Line.{Directive, Line, Directed}
use Rattle.idl_text.specs.Tree.{IsBranch, IsOfGroup, Leaf, Stray, before, grown, is_else, part}
use Rattle.idl_text.specs.declared.groups.kind.DirectiveKind.TheVariants.{Opening, Endif}
use Rattle.idl_text.specs.declared.groups.kind.Test.{Test}
use Rattle.idl_prep.specs.Directive.{Enter, effect, test}
use Rattle.idl_prep.specs.Place.{place_in}
use Rattle.idl_prep.specs.Pass.{begun, coming, is_walked, to_come, visit_tree}
use Rattle.idl_prep.specs.State.{Said, Way, ended, onward, telling}
use Rattle.idl_prep.specs.Walk.{decision, not_closed, opener_of}
use Rattle.idl_prep.specs.declared.walk.groups.Group.{Group}
use Rattle.idl_prep.proofs.WalkLaws.PassLemmas.{continued, coming-act, coming-branch, coming-branch-skipped, coming-endif, coming-endif-skipped, coming-nothing, coming-opening, coming-opening-skipped, coming-skipped, coming-stray, coming-stray-outside, coming-unclosed}
use Rattle.idl_prep.proofs.WalkLaws.WayLemmas.{arrival-and_then, arrival-then}

module _ (bank : RootKey → Option RootAnswer) where
  -- after a step that comes to where a query does
  pub onward-then : (query f whole : Said → Expanding Said) (old new : Way) → ended new ≡ onward bank query old → whole old.state ≡ and_then (query old.state) f
      → onward bank f new ≡ onward bank whole old
  onward-then query f whole old new came is =
      arrival-then bank (query old.state) f new.state old.progress new.progress came ∙ ap (λ q. arrival bank q old.progress) (sym is)

  -- after an item, and a step that comes to where a question does
  pub onward-decided : (item : Item) (question : Said → Expanding Bool) (f : Bool → Said → Expanding Said) (holds : Bool) (old told new : Way)
      → told ≡ telling item old → arrived holds new.progress ≡ arrival bank (question told.state) told.progress → new.state ≡ told.state
      → onward bank (f holds) new ≡ onward bank (λ s. Tell item (and_then (question s) (λ b. f b s))) old
  onward-decided item question f holds old told new tells came same =
      ap (λ s. arrival bank (f holds s) new.progress) same
      ∙ arrival-then bank (question told.state) (λ b. f b told.state) holds told.progress new.progress came
      ∙ ap (λ (w : Way). arrival bank (and_then (question w.state) (λ b. f b w.state)) w.progress) tells

module _ (bank : RootKey → Option RootAnswer) (enter : Enter) (file : FileName) (gs : List Group) (l : Line) (lines : List Line) (alone : before l (part lines) ≡ grown (Leaf l) (part lines)) where
  -- a line that is walked
  pub to_come-act : (old new : Way) → is_walked gs ≡ true → ended new ≡ onward bank (effect enter file l) old → to_come bank enter file gs lines new ≡ to_come bank enter file gs (l ∷ lines) old
  to_come-act old new walked came =
      onward-then bank (effect enter file l) (coming enter file gs (part lines)) (coming enter file gs (part (l ∷ lines))) old new came (coming-act enter file gs l lines old.state alone walked)

  -- a line that is walked, which leaves something to be done first
  pub to_come-act_first : (first : Said → Expanding Said) (old new : Way) → is_walked gs ≡ true → onward bank first new ≡ onward bank (effect enter file l) old
      → onward bank (λ s. and_then (first s) (coming enter file gs (part lines))) new ≡ to_come bank enter file gs (l ∷ lines) old
  to_come-act_first first old new walked came =
      arrival-and_then bank (first new.state) (coming enter file gs (part lines)) new.progress
      ∙ to_come-act old (record { state = outcome (first new.state) bank; progress = reached bank (first new.state) new.progress }) walked came

  -- a line that is skipped
  pub to_come-skipped : (way : Way) → is_walked gs ≡ false → to_come bank enter file gs lines way ≡ to_come bank enter file gs (l ∷ lines) way
  to_come-skipped way skipped = ap (λ q. arrival bank q way.progress) (sym (coming-skipped enter file gs l lines way.state alone skipped))

module _ (bank : RootKey → Option RootAnswer) (enter : Enter) (file : FileName) (d : Directive) (lines : List Line) where
  -- a group begins
  pub to_come-opening : (gs made : List Group) (what : Test) (taken : Bool) (old told new : Way) → d.kind ≡ Opening what → is_walked gs ≡ true
      → told ≡ telling (Turn (place_in file d)) old → arrived taken new.progress ≡ arrival bank (test file d what told.state) told.progress → new.state ≡ told.state
      → made ≡ begun (opener_of d) true taken ∷ gs
      → to_come bank enter file made lines new ≡ to_come bank enter file gs (Directed d ∷ lines) old
  to_come-opening gs made what taken old told new opens walked tells came same is =
      ap (λ m. to_come bank enter file m lines new) is
      ∙ onward-decided bank (Turn (place_in file d)) (test file d what) (λ b s. coming enter file (begun (opener_of d) true b ∷ gs) (part lines) s) taken old told new tells came same
      ∙ ap (λ q. arrival bank q old.progress) (sym (coming-opening enter file gs d what lines old.state opens walked))

  pub to_come-opening-skipped : (gs made : List Group) (what : Test) (way : Way) → d.kind ≡ Opening what → is_walked gs ≡ false → made ≡ begun (opener_of d) false false ∷ gs
      → to_come bank enter file made lines way ≡ to_come bank enter file gs (Directed d ∷ lines) way
  to_come-opening-skipped gs made what way opens skipped is =
      ap (λ m. to_come bank enter file m lines way) is ∙ ap (λ q. arrival bank q way.progress) (sym (coming-opening-skipped enter file gs d what lines way.state opens skipped))

  -- another branch begins
  pub to_come-branch : (g : Group) (gs made : List Group) (taken : Bool) (old told new : Way) → IsBranch d.kind → g.has_else ≡ false → g.is_live ≡ true
      → told ≡ telling (Turn (place_in file d)) old → arrived taken new.progress ≡ arrival bank (decision file d g.is_taken told.state) told.progress → new.state ≡ told.state
      → made ≡ continued g (g.is_taken || taken) taken (is_else d.kind) ∷ gs
      → to_come bank enter file made lines new ≡ to_come bank enter file (g ∷ gs) (Directed d ∷ lines) old
  to_come-branch g gs made taken old told new branch no_else live tells came same is =
      ap (λ m. to_come bank enter file m lines new) is
      ∙ onward-decided bank (Turn (place_in file d)) (decision file d g.is_taken) (λ b s. coming enter file (continued g (g.is_taken || b) b (is_else d.kind) ∷ gs) (part lines) s) taken old told new tells came same
      ∙ ap (λ q. arrival bank q old.progress) (sym (coming-branch enter file g gs d lines old.state branch no_else live))

  pub to_come-branch-skipped : (g : Group) (gs made : List Group) (way : Way) → IsBranch d.kind → g.has_else ≡ false → g.is_live ≡ false → made ≡ continued g g.is_taken false (is_else d.kind) ∷ gs
      → to_come bank enter file made lines way ≡ to_come bank enter file (g ∷ gs) (Directed d ∷ lines) way
  to_come-branch-skipped g gs made way branch no_else dead is =
      ap (λ m. to_come bank enter file m lines way) is ∙ ap (λ q. arrival bank q way.progress) (sym (coming-branch-skipped enter file g gs d lines way.state branch no_else dead))

  -- a group ends
  pub to_come-endif : (g : Group) (gs : List Group) (old new : Way) → d.kind ≡ Endif → g.is_live ≡ true → new ≡ telling (Turn (place_in file d)) old
      → to_come bank enter file gs lines new ≡ to_come bank enter file (g ∷ gs) (Directed d ∷ lines) old
  to_come-endif g gs old new ends live tells =
      ap (to_come bank enter file gs lines) tells ∙ ap (λ q. arrival bank q old.progress) (sym (coming-endif enter file g gs d lines old.state ends live))

  pub to_come-endif-skipped : (g : Group) (gs : List Group) (way : Way) → d.kind ≡ Endif → g.is_live ≡ false
      → to_come bank enter file gs lines way ≡ to_come bank enter file (g ∷ gs) (Directed d ∷ lines) way
  to_come-endif-skipped g gs way ends dead = ap (λ q. arrival bank q way.progress) (sym (coming-endif-skipped enter file g gs d lines way.state ends dead))

  -- a directive is out of place
  pub to_come-stray : (g : Group) (gs : List Group) (old new : Way) → IsBranch d.kind → g.has_else ≡ true → ended new ≡ onward bank (visit_tree enter file g.is_active (Stray d)) old
      → to_come bank enter file (g ∷ gs) lines new ≡ to_come bank enter file (g ∷ gs) (Directed d ∷ lines) old
  to_come-stray g gs old new branch has_else came =
      onward-then bank (visit_tree enter file g.is_active (Stray d)) (coming enter file (g ∷ gs) (part lines)) (coming enter file (g ∷ gs) (part (Directed d ∷ lines))) old new came
      (coming-stray enter file g gs d lines old.state branch has_else)

  pub to_come-stray-outside : (old new : Way) → IsOfGroup d.kind → ended new ≡ onward bank (visit_tree enter file true (Stray d)) old
      → to_come bank enter file [] lines new ≡ to_come bank enter file [] (Directed d ∷ lines) old
  to_come-stray-outside old new of came =
      onward-then bank (visit_tree enter file true (Stray d)) (coming enter file [] (part lines)) (coming enter file [] (part (Directed d ∷ lines))) old new came
      (coming-stray-outside enter file d lines old.state of)

module _ (bank : RootKey → Option RootAnswer) (enter : Enter) (file : FileName) where
  -- the file ends inside a group
  pub to_come-unclosed : (g : Group) (gs : List Group) (old new : Way) → new ≡ telling (not_closed file g.opener) old
      → to_come bank enter file gs [] new ≡ to_come bank enter file (g ∷ gs) [] old
  to_come-unclosed g gs old new tells =
      ap (to_come bank enter file gs []) tells ∙ ap (λ q. arrival bank q old.progress) (sym (coming-unclosed enter file g gs old.state))

  -- the file ends inside none
  pub to_come-nothing : (way : Way) → to_come bank enter file [] [] way ≡ ended way
  to_come-nothing way = ap (λ q. arrival bank q way.progress) (coming-nothing enter file way.state)
