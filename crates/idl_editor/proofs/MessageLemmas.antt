-- Heads and messages at the front of bytes.
use Rattle.std.proofs.Common.{◌≡◌, ◌∙◌, ◌+◌, ◌<◌, ◌≤◌, ℕ, List, [], ◌∷◌, ◌++◌, length, take, drop, map, Some, refl, sym, ap, subst, arith, append_assoc, length-append, length-drop}
use Rattle.std.proofs.lemmas.List.{take-append-drop, length-take-le}
use Rattle.std.proofs.Math.Seq.{take-append_seam, drop-append_seam, take-add}
use Rattle.std.specs.List.{flat_map}
use Rattle.httparse.specs.Grammar.{LineEnd, crlf, lf, print_end, print_field, print_section}
use Rattle.httparse.specs.Spans.{name_and_value}
use Rattle.httparse.proofs.GrammarLemmas.{section_unique}
use Rattle.idl_editor.specs.frames.Message.{announced, IsHead, IsMessage, HasNoMessage, NeverHasMessage, AreBodies, longest_body}
use Rattle.idl_editor.specs.frames.Heads.{HasNoHead, NeverHasHead, IsHeadAt}

-- bytes begin with one head
pub heads-unique : (head next : List ℕ) (m n : ℕ) (left rest : List ℕ) → IsHead head m → IsHead next n → head ++ left ≡ next ++ rest → (head ≡ next) × (m ≡ n) × (left ≡ rest)
heads-unique head next m n left rest h k e =
    let same = section_unique (head ++ left) h.0 k.0 h.1 k.1 left rest (h.2.are_fields, ap (λ t. t ++ left) h.2.text) (k.2.are_fields, e ∙ ap (λ t. t ++ rest) k.2.text) in
    let number : Some m ≡ Some n = sym h.2.announces ∙ ap (λ fields. announced (map name_and_value fields)) same.0 ∙ k.2.announces in
    (h.2.text ∙ (λ i. print_section (same.0 i) (same.1 i)) ∙ sym k.2.text, (cc), same.2)

-- what is in front of equal bytes is equal where it is as long
pub fronts : (a b r q : List ℕ) → length a ≡ length b → a ++ r ≡ b ++ q → (a ≡ b) × (r ≡ q)
fronts a b r q long e = (
  sym (take-append_seam a r) ∙ ap (take (length a)) e ∙ ap (λ n. take n (b ++ q)) long ∙ take-append_seam b q,
  sym (drop-append_seam a r) ∙ ap (drop (length a)) e ∙ ap (λ n. drop n (b ++ q)) long ∙ drop-append_seam b q,
)

-- the body of the message in front
front-of : (message body rest : List ℕ) (m : IsMessage message body) → message ++ rest ≡ m.head ++ (body ++ rest)
front-of message body rest m = ap (λ t. t ++ rest) m.text ∙ append_assoc m.head body rest

-- bytes begin with one message
pub messages-unique : (message other body text left rest : List ℕ) → IsMessage message body → IsMessage other text → message ++ left ≡ other ++ rest → (body ≡ text) × (left ≡ rest)
messages-unique message other body text left rest m o e =
    let same = heads-unique m.head o.head (length body) (length text) (body ++ left) (text ++ rest) m.is_head o.is_head (sym (front-of message body left m) ∙ e ∙ front-of other text rest o) in
    fronts body text left rest same.1 same.2

pub bodies-unique : (bodies others : List (List ℕ)) (input rest left : List ℕ) → AreBodies bodies input rest → AreBodies others input left → HasNoMessage rest → HasNoMessage left → (bodies ≡ others) × (rest ≡ left)
bodies-unique [] [] input rest left a b none over = (refl, sym a ∙ b)
bodies-unique [] (text ∷ others) input rest left a b none over = absurd (none b.0 text b.1 (sym a ∙ b.3) b.2)
bodies-unique (body ∷ bodies) [] input rest left a b none over = absurd (over a.0 body a.1 (sym b ∙ a.3) a.2)
bodies-unique (body ∷ bodies) (text ∷ others) input rest left a b none over =
    let same = messages-unique a.0 b.0 body text a.1 b.1 a.2 b.2 (sym a.3 ∙ b.3) in
    let later = bodies-unique bodies others a.1 rest left a.4 (subst (λ t. AreBodies others t left) (sym same.1) b.4) none over in
    ((λ i. same.0 i ∷ later.0 i), later.1)

-- without a head there is no message
pub no-message : (bytes : List ℕ) → HasNoHead bytes → HasNoMessage bytes
no-message bytes none message body rest e m = none m.head (body ++ rest) (length body) (e ∙ front-of message body rest m) m.is_head

pub never-message : (bytes : List ℕ) → NeverHasHead bytes → NeverHasMessage bytes
never-message bytes never more = no-message (bytes ++ more) (never more)

-- nor where the bytes end within the body
pub short-message : (bytes : List ℕ) (len n : ℕ) → IsHeadAt bytes len n → length bytes < len + n → HasNoMessage bytes
short-message bytes len n at few message body rest e m =
    let same = heads-unique (take len bytes) m.head n (length body) (drop len bytes) (body ++ rest) at.1 m.is_head (take-append-drop len bytes ∙ e ∙ front-of message body rest m) in
    omega (arith, same.1, ap length same.2, length-drop len bytes, length-append body rest, at.0, few)

-- a head has a byte
end-some : (last : LineEnd) → 0 < length (print_end last)
end-some crlf = omega arith
end-some lf = omega arith

pub head-some : (head : List ℕ) (n : ℕ) → IsHead head n → 0 < length head
head-some head n h =
    omega (arith, ap length h.2.text, length-append (flat_map print_field h.0) (print_end h.1), end-some h.1)

-- the first bytes are a message where they are so many
pub message-front : (held : List ℕ) (len n : ℕ) → IsHeadAt held len n → n ≤ longest_body → len + n ≤ length held → IsMessage (take (len + n) held) (take n (drop len held))
message-front held len n at within whole =
    let size : length (take n (drop len held)) ≡ n = length-take-le n (drop len held) (omega (arith, length-drop len held)) in
    record {
      head = take len held;
      is_head = subst (λ m. IsHead (take len held) m) (sym size) at.1;
      within = omega (arith, size, within);
      text = take-add len n held;
    }
