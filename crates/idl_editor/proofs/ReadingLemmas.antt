-- What is received of what was read and what is to come.
use Rattle.std.proofs.Common.{◌≡◌, ◌≢◌, ◌∙◌, ◌+◌, ◌-◌, ◌<◌, ◌≤◌, ℕ, List, [], ◌++◌, length, take, drop, slice_range, Option, None, Some, refl, sym, ap, subst, arith, append_assoc, length-append, length-take}
use Rattle.std.proofs.lemmas.List.{append-nil, take-append-drop, take-append-le}
use Rattle.idl_source.specs.devices.Device.{prepend}
use Rattle.idl_editor.specs.frames.Message.{HasNoMessage, IsHead, IsMessage, longest_body}
use Rattle.idl_editor.specs.frames.Heads.{HasNoHead, NeverHasHead, IsHeadAt}
use Rattle.idl_editor.specs.frames.Reading.{BeginsNoMessage, BeginsOverLimit, EndsWithin, IsOver, TakesMessage}
use Rattle.idl_editor.proofs.MessageLemmas.{head-some, message-front, never-message, no-message, short-message}

-- two pieces that are to come are one
pub prepend-prepend : (rest : Option (List ℕ)) (xs ys : List ℕ) → prepend xs (prepend ys rest) ≡ prepend (xs ++ ys) rest
prepend-prepend None xs ys = refl
prepend-prepend (Some zs) xs ys = ap Some (sym (append_assoc xs ys zs))

-- the first of the bytes that were read
pub prepend-parts : (rest : Option (List ℕ)) (held : List ℕ) (n : ℕ) → prepend held rest ≡ prepend (take n held) (prepend (drop n held) rest)
prepend-parts rest held n = ap (λ t. prepend t rest) (sym (take-append-drop n held)) ∙ sym (prepend-prepend rest (take n held) (drop n held))

-- a message that was read whole is taken
pub takes-front : (rest : Option (List ℕ)) (held body : List ℕ) (len n : ℕ) → IsHeadAt held len n → n ≤ longest_body → len + n ≤ length held
    → body ≡ slice_range held len (len + n) → TakesMessage body (prepend held rest) (prepend (drop (len + n) held) rest)
takes-front rest held body len n at within whole is =
    let size : len + n - len ≡ n = omega arith in
    let same : take n (drop len held) ≡ body = sym (is ∙ ap (λ m. take m (drop len held)) size) in
    (take (len + n) held, subst (λ b. IsMessage (take (len + n) held) b) same (message-front held len n at within whole), prepend-parts rest held (len + n))

-- more that is read leaves the head
pub head-stays : (held more : List ℕ) (len n : ℕ) → IsHeadAt held len n → IsHeadAt (held ++ more) len n
head-stays held more len n at =
    (omega (arith, at.0, length-append held more), subst (λ h. IsHead h n) (sym (take-append-le len held more at.0)) at.1)

-- something was read that is no message, and nothing is to come
pub ends-within : (rest : Option (List ℕ)) (held : List ℕ) → held ≢ [] → HasNoMessage held → IsOver rest → EndsWithin (prepend held rest)
ends-within None held some none over = tt
ends-within (Some bytes) held some none over =
    let all : held ++ bytes ≡ held = ap (λ t. held ++ t) over ∙ append-nil held in
    subst (λ t. (t ≢ []) × HasNoMessage t) (sym all) (some, none)

pub ends-in_head : (rest : Option (List ℕ)) (held : List ℕ) → held ≢ [] → HasNoHead held → IsOver rest → EndsWithin (prepend held rest)
ends-in_head rest held some none over = ends-within rest held some (no-message held none) over

-- the input ends within the body
pub ends-in_body : (rest : Option (List ℕ)) (held : List ℕ) (len n : ℕ) → IsHeadAt held len n → length held < len + n → IsOver rest → EndsWithin (prepend held rest)
ends-in_body rest held len n at few over =
    let some : held ≢ [] = λ none. omega (arith, ap length none, at.0, length-take len held, head-some (take len held) n at.1) in
    ends-within rest held some (short-message held len n at few) over

pub begins-none : (rest : Option (List ℕ)) (held : List ℕ) → NeverHasHead held → BeginsNoMessage (prepend held rest)
begins-none rest held never = (held, rest, refl, never-message held never)

pub begins-over : (rest : Option (List ℕ)) (held : List ℕ) (len n : ℕ) → IsHeadAt held len n → longest_body < n → BeginsOverLimit (prepend held rest)
begins-over rest held len n at over = (take len held, n, prepend (drop len held) rest, prepend-parts rest held len, at.1, over)
