-- What is told of a failure, piece by piece.
use Rattle.std.proofs.Common.{◌≡◌, ◌≢◌, ◌∙◌, ◌++◌, ◌∷◌, [], ℕ, List, Option, ap, append_assoc, codes, decimal, refl, sym}
use Rattle.idl_explain.specs.Explained.{ended, headline, said, title, topic_of}
use Rattle.idl_explain.specs.declared.explanation.Explanation.{Explanation}
use Rattle.idl_explain.specs.declared.explanation.Topic.{Topic}
use Rattle.idl_explain.specs.declared.explanation.Topic.TheVariants as topic
use Rattle.idl_source.specs.Refusal.{number_of}
use Rattle.idl_source.specs.declared.refusal.Refusal.{Refusal}
use Rattle.idl_source.specs.devices.Device.{append}
use Rattle.idl_source.proofs.DeviceLemmas.{append-append}
use Rattle.idl_driver.specs.Messages.{message_of}
use Rattle.idl_driver.specs.declared.failure.FailureSubject.{FailureSubject}
use Rattle.idl_driver.specs.declared.failure.ProgramFailure.{ProgramFailure}
use Rattle.idl_driver.specs.declared.limit.Limit.{Limit}
use Rattle.idl_driver.specs.declared.failure.ProgramFailure.TheVariants as program
use Rattle.idl_tool.specs.Messages.{IsProgramMessage}

-- a piece, and then what stands behind it
behind : (before mid after : Option (List ℕ)) (xs ys : List ℕ) → mid ≡ append before xs → after ≡ append mid ys → after ≡ append before (xs ++ ys)
behind before mid after xs ys first next = next ∙ ap (λ o. append o ys) first ∙ append-append before xs ys

-- the word before a number stands with it
front : (d r : List ℕ) → codes ": refused " ++ (d ++ r) ≡ codes ": " ++ ((codes "refused " ++ d) ++ r)
front d r =
    let split : codes ": refused " ≡ codes ": " ++ codes "refused " = refl in
    ap (λ (p : List ℕ). p ++ (d ++ r)) split ∙ append_assoc (codes ": ") (codes "refused ") (d ++ r) ∙ ap (λ (t : List ℕ). codes ": " ++ t) (sym (append_assoc (codes "refused ") d r))

-- pieces in a row are the line, whose parts stand together
nest : (p n c t w : List ℕ) → p ++ (n ++ (c ++ (t ++ (c ++ w)))) ≡ ((p ++ n) ++ c) ++ ((t ++ c) ++ w)
nest p n c t w =
    sym (append_assoc p n (c ++ (t ++ (c ++ w)))) ∙ sym (append_assoc (p ++ n) c (t ++ (c ++ w))) ∙ ap (λ (l : List ℕ). ((p ++ n) ++ c) ++ l) (sym (append_assoc t c w))

-- the pieces of the line about a refusal
pub refusal-told : (name : List ℕ) (refusal : Refusal) (e : Explanation) (a b c d f g h i : Option (List ℕ)) → topic_of e.told ≡ topic.Refusal refusal
    → b ≡ append a (codes "idltool: ") → c ≡ append b name → d ≡ append c (codes ": refused ") → f ≡ append d (decimal (number_of refusal)) → g ≡ append f (codes ": ")
    → h ≡ append g (said e.words []) → i ≡ append h (codes "\n") → i ≡ append a (codes "idltool: " ++ name ++ codes ": " ++ headline e [])
refusal-told name refusal e a b c d f g h i is one two three four five six seven =
    let newline : codes "\n" ≡ 10 ∷ [] = refl in
    let words = said e.words [] in
    behind a b i (codes "idltool: ") _ one (behind b c i name _ two (behind c d i (codes ": refused ") _ three (behind d f i (decimal (number_of refusal)) _ four (behind f g i (codes ": ") _ five (behind g h i words _ six seven)))))
    ∙ ap (λ (t : List ℕ). append a (codes "idltool: " ++ (name ++ t))) (front (decimal (number_of refusal)) (codes ": " ++ (words ++ codes "\n")))
    ∙ ap (λ (n : List ℕ). append a (codes "idltool: " ++ (name ++ (codes ": " ++ (title (topic.Refusal refusal) ++ (codes ": " ++ (words ++ n))))))) newline
    ∙ ap (λ (t : Topic). append a (codes "idltool: " ++ (name ++ (codes ": " ++ (title t ++ (codes ": " ++ ended words)))))) (sym is)
    ∙ ap (append a) (nest (codes "idltool: ") name (codes ": ") (title (topic_of e.told)) (ended words))

-- the pieces of the line about a limit
pub limit-told : (name words : List ℕ) (a b c d e f : Option (List ℕ)) → b ≡ append a (codes "idltool: ") → c ≡ append b name → d ≡ append c (codes ": refused 5: ")
    → e ≡ append d words → f ≡ append e (codes "\n") → f ≡ append a (codes "idltool: " ++ name ++ codes ": refused 5: " ++ ended words)
limit-told name words a b c d e f one two three four five =
    let about = codes "idltool: " ++ name in
    behind a d f (about ++ codes ": refused 5: ") (words ++ codes "\n") (behind a c d about (codes ": refused 5: ") (behind a b c (codes "idltool: ") name one two) three)
    (behind d e f words (codes "\n") four five)

-- what is no refusal is told as each program tells it
pub plain : (failure : ProgramFailure) → ((subject : FailureSubject) (refusal : Refusal) → failure ≢ program.Refused subject refusal)
    → ((subject : FailureSubject) (limit : Limit) → failure ≢ program.OverLimit subject limit) → IsProgramMessage failure (message_of (codes "idltool") failure)
plain program.BadArguments not other = refl
plain (program.Refused subject refusal) not other = absurd (not subject refusal refl)
plain (program.OverLimit subject limit) not other = absurd (other subject limit refl)
plain (program.CannotRead name) not other = refl
plain program.NoMemory not other = refl
plain program.ReadFailed not other = refl
plain program.WriteFailed not other = refl
