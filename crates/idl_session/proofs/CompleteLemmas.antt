-- Complete commands, and what may come after them.
use Rattle.std.proofs.Common.{◌≡◌, ◌∷◌, ◌++◌, ◌+◌, ◌-◌, ◌∙◌, ◌≤◌, Bool, true, false, cond, eqb, ℕ, List, [], length, take, sym, ap, refl, arith, subst, inl, inr, zero, suc, length-append}
use Rattle.std.specs.List.{filter, onto_first}
use Rattle.std.proofs.lemmas.Bool.{cases_lt}
use Rattle.std.proofs.lemmas.List.{append-nil, take-append-le, length-take-le}
use Rattle.idl_session.specs.Commands.{Command, command_of, commands_after, commands_of, complete_commands, has_its_lines}
use Rattle.idl_session.specs.Lines.{lines_of, onto_next, whole_lines}
use Rattle.idl_session.specs.Requests.{lines_taken, request_of}
use Rattle.idl_session.proofs.RunLemmas.{whole_command, short_of_lines}

-- at most so many stand behind a front
record IsFront {X : Type 0} (front all : List X) (most : ℕ) : Type 0 where
  more : List X
  whole : all ≡ front ++ more
  few : length more ≤ most

onto_few : (b : ℕ) (lines : List (List ℕ)) (most : ℕ) → 1 ≤ most → length lines ≤ most → length (onto_first b lines) ≤ most
onto_few b [] most some few = omega (arith, some)
onto_few b (line ∷ lines) most some few = omega (arith, few)

-- a byte before lines, of which the whole ones are the first
byte-front : (t : Bool) (b : ℕ) (whole lines : List (List ℕ)) (most : ℕ) → 1 ≤ most → IsFront whole lines most → IsFront (cond t ([] ∷ whole) (onto_next b whole)) (cond t ([] ∷ lines) (onto_first b lines)) most
byte-front true b whole lines most some front = record {
  more = front.more;
  whole = ap (λ (ls : List (List ℕ)). [] ∷ ls) front.whole;
  few = front.few;
}
byte-front false b [] lines most some front = record {
  more = onto_first b lines;
  whole = refl;
  few = onto_few b lines most some (subst (λ (ls : List (List ℕ)). length ls ≤ most) (sym front.whole) front.few);
}
byte-front false b (line ∷ whole) lines most some front = record {
  more = front.more;
  whole = ap (onto_first b) front.whole;
  few = front.few;
}

-- the whole lines come first, and of the bytes themselves at most one is behind them
lines-front : (bytes rest : List ℕ) → IsFront (whole_lines bytes) (lines_of (bytes ++ rest)) (length (lines_of rest) + 1)
lines-front [] rest = record { more = lines_of rest; whole = refl; few = omega arith }
lines-front (b ∷ bytes) rest = byte-front (eqb b 10) b (whole_lines bytes) (lines_of (bytes ++ rest)) (length (lines_of rest) + 1) (omega arith) (lines-front bytes rest)

-- a command takes a line at least
few_commands : (n : ℕ) (lines : List (List ℕ)) → length (commands_after n lines) ≤ length lines - n
few_commands zero [] = omega arith
few_commands (suc n) [] = omega arith
few_commands zero (line ∷ lines) = omega (arith, few_commands (lines_taken (request_of line)) lines)
few_commands (suc n) (line ∷ lines) = omega (arith, few_commands n lines)

-- the complete commands come first
commands-front : (n : ℕ) (lines more : List (List ℕ)) (most : ℕ) → length more ≤ most → 1 ≤ most → IsFront (filter has_its_lines (commands_after n lines)) (commands_after n (lines ++ more)) most
commands-front n [] more most few some = record { more = commands_after n more; whole = refl; few = omega (arith, few_commands n more, few) }
commands-front (suc n) (line ∷ lines) more most few some = commands-front n lines more most few some
commands-front zero (line ∷ lines) more most few some =
    let r = request_of line in
    let k = lines_taken r in
    elim (cases_lt (length lines) k) [
      | inl less ↦
          let all = commands_after 0 (line ∷ lines ++ more) in
          record {
            more = all;
            whole = ap (λ (cs : List Command). cs ++ all) (sym (short_of_lines line lines less));
            few = omega (arith, few_commands k (lines ++ more), length-append lines more, less, few, some);
          }
      | inr enough ↦
          let c = command_of r (take k lines) in
          let rest = filter has_its_lines (commands_after k lines) in
          let front = commands-front k lines more most few some in
          let kept : filter has_its_lines (commands_after 0 (line ∷ lines)) ≡ c ∷ rest = ap (λ t. cond t (c ∷ rest) rest) (whole_command r (take k lines) (length-take-le k lines enough)) in
          record {
            more = front.more;
            whole =
                ap (λ (ls : List (List ℕ)). command_of r ls ∷ commands_after k (lines ++ more)) (take-append-le k lines more enough)
                ∙ ap (λ (cs : List Command). c ∷ cs) front.whole ∙ ap (λ (cs : List Command). cs ++ front.more) (sym kept);
            few = front.few;
          }
    ]

-- complete commands stay, whatever comes
pub complete-first : (bytes rest : List ℕ) → (more : List Command) × (commands_of (bytes ++ rest) ≡ complete_commands bytes ++ more)
complete-first bytes rest =
    let lines = lines-front bytes rest in
    let front = commands-front 0 (whole_lines bytes) lines.more (length lines.more + 1) (omega arith) (omega arith) in
    (front.more, ap (commands_after 0) lines.whole ∙ front.whole)

-- and all but one at most are complete
pub complete-all : (bytes : List ℕ) → (more : List Command) × (commands_of bytes ≡ complete_commands bytes ++ more) × (length more ≤ 1)
complete-all bytes =
    let lines = lines-front bytes [] in
    let front = commands-front 0 (whole_lines bytes) lines.more 1 (omega (arith, lines.few)) (omega arith) in
    (front.more, ap commands_of (sym (append-nil bytes)) ∙ ap (commands_after 0) lines.whole ∙ front.whole, front.few)
