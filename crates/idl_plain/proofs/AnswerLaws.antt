-- What is answered, or kept of an item, is told by the one form that tells it.
use Rattle.std.proofs.Common.{◌≡◌, ◌∙◌, ℕ, List, Option, None, Some, refl, sym, ap}
use Rattle.std.specs.Prelude.{◌↔◌}
use Rattle.idl_event.specs.Items.{event_of}
use Rattle.idl_event.specs.declared.asked.key.RootAnswer.{RootAnswer}
use Rattle.idl_event.specs.declared.asked.key.RootAnswer.TheVariants.{File, Macro}
use Rattle.idl_event.specs.declared.told.event.Event.{Event}
use Rattle.idl_event.specs.declared.told.event.Item.{Item}
use Rattle.idl_event.specs.declared.told.event.Item.TheVariants.{Kept}
use Rattle.idl_lex.specs.tokens.Tokens.{Token, tokens_in, tokens_of}
use Rattle.idl_macro.specs.Macros.{body_in}
use Rattle.idl_plain.proofs.PragmaLaws.{no-some, some-same}
use Rattle.idl_prep.specs.Include.{file_in}

file-there : (a : Option RootAnswer) (text : List (List ℕ)) → file_in a ≡ Some text → a ≡ Some (File text)
file-there (Some (File lines)) text h = ap (λ t. Some (File t)) (some-same lines text h)
file-there None text h = absurd (no-some text h)
file-there (Some other) text h = absurd (no-some text h)

pub files-told : (a : Option RootAnswer) (text : List (List ℕ)) → (file_in a ≡ Some text) ↔ (a ≡ Some (File text))
files-told a text = (file-there a text, λ h. ap file_in h)

-- a macro's text, of which these are the tokens
abbrev Bodies : Option RootAnswer → List Token → Type 0
Bodies a tokens = (text : List (List ℕ)) × (a ≡ Some (Macro text)) × (tokens ≡ tokens_in (tokens_of text))

body-there : (a : Option RootAnswer) (tokens : List Token) → body_in a ≡ Some tokens → Bodies a tokens
body-there (Some (Macro text)) tokens h = (text, refl, sym (some-same (tokens_in (tokens_of text)) tokens h))
body-there None tokens h = absurd (no-some tokens h)
body-there (Some other) tokens h = absurd (no-some tokens h)

pub bodies-told : (a : Option RootAnswer) (tokens : List Token) → (body_in a ≡ Some tokens) ↔ ((text : List (List ℕ)) × (a ≡ Some (Macro text)) × (tokens ≡ tokens_in (tokens_of text)))
bodies-told a tokens = (body-there a tokens, λ t. ap body_in t.1 ∙ ap Some (sym t.2))

event-there : (item : Item) (event : Event) → event_of item ≡ Some event → item ≡ Kept event
event-there (Kept e) event h = ap Kept (some-same e event h)
event-there other event h = absurd (no-some event h)

pub events-told : (item : Item) (event : Event) → (event_of item ≡ Some event) ↔ (item ≡ Kept event)
events-told item event = (event-there item event, λ h. ap event_of h)
