-- A test of a group's first lines, and directives that define, on a root that is held in parts.
use Rattle.std.proofs.Common.{◌≡◌, ℕ, Bool, List, Option, ap, sym, ◌∙◌}
use Rattle.idl_memo.specs.Query.{and_then}
use Rattle.idl_event.specs.Expanding.{Expanding, Reached, arrival, arrived}
use Rattle.idl_macro.specs.Macros.{Definitions}
use Rattle.idl_lex.specs.declared.tokens.token.PlacedToken.{PlacedToken}
use Rattle.idl_fault.specs.declared.file_name.FileName.{FileName}
use Rattle.idl_event.specs.declared.asked.key.RootAnswer.{RootAnswer}
use Rattle.idl_event.specs.declared.asked.key.RootKey.{RootKey}
use Rattle.idl_fault.specs.declared.place.Place.{Place}
use Rattle.idl_text.specs.Line.{Directive}
use Rattle.idl_text.specs.declared.groups.kind.Test.{Test}
use Rattle.idl_prep.specs.Directive.{redefined, test, tested}
use Rattle.idl_prep.specs.Place.{place_in}
use Rattle.idl_prep.specs.State.{Said, Way, ended, onward}
use Rattle.idl_prep.proofs.WalkLaws.WayLemmas.{arrival-then}

-- a test of the directive as macros take it is that of the directive
pub arrival-test : (bank : RootKey → Option RootAnswer) (query : Place → List ℕ → Definitions → List PlacedToken → Expanding Bool) (file : FileName) (place : Place) (word : List ℕ)
    (operands : List PlacedToken) (d : Directive) (what what' : Test) (way way' : Way)
    → query (place_in file d) d.word.token way'.state.definitions d.operands ≡ tested file d way'.state what → what' ≡ what
    → place ≡ place_in file d → word ≡ d.word.token → operands ≡ d.operands → way ≡ way'
    → arrival bank (query place word way.state.definitions operands) way.progress ≡ arrival bank (test file d what' way'.state) way'.progress
unfolding test
arrival-test bank query file place word operands d what what' way way' meant same_test at same_word same_operands same_way =
    ap (λ (way : Way). arrival bank (query place word way.state.definitions operands) way.progress) same_way
    ∙ ap (λ (place : Place). arrival bank (query place word way'.state.definitions operands) way'.progress) at
    ∙ ap (λ (word : List ℕ). arrival bank (query (place_in file d) word way'.state.definitions operands) way'.progress) same_word
    ∙ ap (λ (ts : List PlacedToken). arrival bank (query (place_in file d) d.word.token way'.state.definitions ts) way'.progress) same_operands
    ∙ ap (λ (q : Expanding Bool). arrival bank q way'.progress) meant
    ∙ ap (λ (what : Test). arrival bank (tested file d way'.state what) way'.progress) (sym same_test)

-- definitions that a directive gives take the place of those that there were
pub ended-redefined : (bank : RootKey → Option RootAnswer) (query : Definitions → Expanding Definitions) (way way' : Way) (definitions : Definitions) (p : Reached)
    → arrived definitions p ≡ arrival bank (query way.state.definitions) way.progress → way ≡ way'
    → ended (record { state = record way.state { definitions = definitions }; progress = p }) ≡ onward bank (λ s. and_then (query s.definitions) (redefined s)) way'
ended-redefined bank query way way' definitions p came same =
    arrival-then bank (query way.state.definitions) (redefined way.state) definitions way.progress p came
    ∙ ap (onward bank (λ (s : Said). and_then (query s.definitions) (redefined s))) same

-- a directive that defines, as macros take it
pub onward-stated : (bank : RootKey → Option RootAnswer) (file : FileName) (d : Directive) (query : Place → List ℕ → Definitions → List PlacedToken → Expanding Definitions) (place : Place) (word : List ℕ) (operands : List PlacedToken) (way : Way)
    → place ≡ place_in file d → word ≡ d.word.token → operands ≡ d.operands
    → onward bank (λ s. and_then (query place word s.definitions operands) (redefined s)) way
    ≡ onward bank (λ s. and_then (query (place_in file d) d.word.token s.definitions d.operands) (redefined s)) way
onward-stated bank file d query place word operands way at same_word same_operands =
    ap (λ (place : Place). onward bank (λ (s : Said). and_then (query place word s.definitions operands) (redefined s)) way) at
    ∙ ap (λ (word : List ℕ). onward bank (λ (s : Said). and_then (query (place_in file d) word s.definitions operands) (redefined s)) way) same_word
    ∙ ap (λ (ts : List PlacedToken). onward bank (λ (s : Said). and_then (query (place_in file d) d.word.token s.definitions ts) (redefined s)) way) same_operands
