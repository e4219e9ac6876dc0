-- Commands in order, the replies to them, and where a failure leaves both.
use Rattle.std.proofs.Common.{◌≡◌, ◌∷◌, ◌++◌, ◌∙◌, ◌<◌, ◌≤◌, true, false, cond, eqb, ℕ, List, [], Option, Some, None, IfSome, length, take, drop, sym, ap, refl, arith, subst, inl, inr, append_assoc, zero, suc}
use Rattle.std.specs.List.{filter}
use Rattle.std.specs.Option.{option_map}
use Rattle.std.proofs.lemmas.Bool.{cases_lt}
use Rattle.std.proofs.lemmas.Bool.Decides.{nat_tests}
use Rattle.std.proofs.lemmas.List.{append-nil, take_at, drop_at, take_all, drop_all}
use Rattle.idl_source.specs.devices.Device.{prepend, append, WritesPart}
use Rattle.idl_source.proofs.DeviceLemmas.{append-append}
use Rattle.idl_session.specs.Answers.{Answers, Replies}
use Rattle.idl_session.specs.Commands.{Command, Make, Unfinished, command_of, commands_after, commands_of, complete_commands, has_its_lines}
use Rattle.idl_session.specs.Lines.{lines_of, whole_lines}
use Rattle.idl_session.specs.Requests.{Request, lines_taken, request_kept, request_of}
use Rattle.idl_session.specs.Requests as request
use Rattle.idl_session.specs.Serving.{Standing, Serves, SendsReply, IsCut, Served, TakesCommands, commands_left, moment_of, to_come}
use Rattle.idl_session.specs.Stopping.{Moment, IsLeft}
use Rattle.idl_session.specs.Streams.{Stream, TakesLine, TakesLines, FailsWithin, IsTakenBy, IsOver, onto, unread}
use Rattle.idl_loader.specs.declared.stop.Stop.{Stop}
use Rattle.idl_loader.specs.declared.stop.Stop.TheVariants.{ReadFailed, WriteFailed}
use Rattle.idl_loader.proofs.ReplyLemmas.{append-none}
use Rattle.idl_session.proofs.StreamLemmas.{prepend-none, prepend-prepend, onto-none, onto-onto, lines-more, clash}
use Rattle.idl_project.specs.UpToDate.{State}

commands_after-drop : (n : ℕ) (ls : List (List ℕ)) → commands_after n ls ≡ commands_after 0 (drop n ls)
commands_after-drop zero ls = refl
commands_after-drop (suc n) [] = refl
commands_after-drop (suc n) (l ∷ ls) = commands_after-drop n ls

-- what a command takes of the lines after it
taken-split : (n : ℕ) (lines rest : List (List ℕ)) → length lines ≤ n → (length lines < n → rest ≡ []) → (take n (lines ++ rest) ≡ lines) × (drop n (lines ++ rest) ≡ rest)
taken-split n lines rest most end = elim (cases_lt (length lines) n) [
  | inl less ↦
      let Goal : List (List ℕ) → Type 0 = λ r. (take n (lines ++ r) ≡ lines) × (drop n (lines ++ r) ≡ r) in
      subst Goal (sym (end less)) (
        ap (take n) (append-nil lines) ∙ take_all n lines (omega arith),
        ap (drop n) (append-nil lines) ∙ drop_all n lines (omega arith),
      )
  | inr more ↦
      let same : length lines ≡ n = omega (arith, most) in
      (take_at lines rest n same, drop_at lines rest n same)
]

-- a line, and the further lines that its request takes, are the first command
first_command : (line : List ℕ) (lines rest : List (List ℕ)) → length lines ≤ lines_taken (request_of line) → (length lines < lines_taken (request_of line) → rest ≡ [])
    → commands_after 0 (line ∷ lines ++ rest) ≡ command_of (request_of line) lines ∷ commands_after 0 rest
first_command line lines rest most end =
    let n = lines_taken (request_of line) in
    let split = taken-split n lines rest most end in
    ap (λ (ls : List (List ℕ)). command_of (request_of line) ls ∷ commands_after n (lines ++ rest)) split.0
    ∙ ap (λ (cs : List Command). command_of (request_of line) lines ∷ cs) (commands_after-drop n (lines ++ rest) ∙ ap (commands_after 0) split.1)

one_command : (line : List ℕ) (lines : List (List ℕ)) (bytes : Option (List ℕ)) → length lines ≤ lines_taken (request_of line) → (length lines < lines_taken (request_of line) → IsOver bytes)
    → option_map (commands_after 0) (prepend (line ∷ lines) (option_map lines_of bytes)) ≡ prepend (command_of (request_of line) lines ∷ []) (option_map commands_of bytes)
one_command line lines None most end = refl
one_command line lines (Some bytes) most end =
    ap (λ (cs : List Command). Some cs) (first_command line lines (lines_of bytes) most (λ less. ap lines_of (end less)))

commands-lines : (bytes : Option (List ℕ)) → option_map commands_of bytes ≡ option_map (commands_after 0) (option_map lines_of bytes)
commands-lines None = refl
commands-lines (Some bytes) = refl

-- a request with the lines that it announced is a command that has them
pub whole_command : (r : Request) (lines : List (List ℕ)) → length lines ≡ lines_taken r → has_its_lines (command_of r lines) ≡ true
whole_command request.Malformed lines same = refl
whole_command (request.Place edit count) lines same =
    let e : eqb (length lines) count ≡ true = grind (arith, nat_tests) in
    ap (λ t. has_its_lines (cond t (Make (edit lines)) Unfinished)) e
whole_command (request.Make edit) lines same = refl
whole_command (request.Ask question name) lines same = refl
whole_command request.TellWork lines same = refl

-- and without one of them it is one that lacks lines
short_command : (r : Request) (lines : List (List ℕ)) → length lines < lines_taken r → has_its_lines (command_of r lines) ≡ false
short_command request.Malformed lines less = absurd (omega (arith, less))
short_command (request.Place edit count) lines less =
    let e : eqb (length lines) count ≡ false = grind (arith, nat_tests) in
    ap (λ t. has_its_lines (cond t (Make (edit lines)) Unfinished)) e
short_command (request.Make edit) lines less = absurd (omega (arith, less))
short_command (request.Ask question name) lines less = absurd (omega (arith, less))
short_command request.TellWork lines less = absurd (omega (arith, less))

-- a line and all the lines that its request takes are a complete command
complete_command : (line : List ℕ) (lines : List (List ℕ)) (bytes rest : List ℕ) → whole_lines bytes ≡ line ∷ lines ++ whole_lines rest → length lines ≡ lines_taken (request_of line)
    → complete_commands bytes ≡ command_of (request_of line) lines ∷ complete_commands rest
complete_command line lines bytes rest cut same =
    let c = command_of (request_of line) lines in
    ap (λ (ls : List (List ℕ)). filter has_its_lines (commands_after 0 ls)) cut
    ∙ ap (filter has_its_lines) (first_command line lines (whole_lines rest) (omega (arith, same)) (λ less. absurd (omega (arith, same, less))))
    ∙ ap (λ t. cond t (c ∷ complete_commands rest) (complete_commands rest)) (whole_command (request_of line) lines same)

-- a line and some of the lines that its request takes are none
pub short_of_lines : (line : List ℕ) (lines : List (List ℕ)) → length lines < lines_taken (request_of line) → filter has_its_lines (commands_after 0 (line ∷ lines)) ≡ []
short_of_lines line lines less =
    let n = lines_taken (request_of line) in
    let c = command_of (request_of line) (take n lines) in
    ap (λ t. cond t (c ∷ filter has_its_lines (commands_after n lines)) (filter has_its_lines (commands_after n lines)))
    (ap (λ (ls : List (List ℕ)). has_its_lines (command_of (request_of line) ls)) (take_all n lines (omega (arith, less))) ∙ short_command (request_of line) lines less)
    ∙ ap (filter has_its_lines) (commands_after-drop n lines ∙ ap (commands_after 0) (drop_all n lines (omega (arith, less))))

no_command : (line : List ℕ) (bytes : List ℕ) (lines : List (List ℕ)) → whole_lines bytes ≡ line ∷ lines → length lines < lines_taken (request_of line) → complete_commands bytes ≡ []
no_command line bytes lines cut less = ap (λ (ls : List (List ℕ)). filter has_its_lines (commands_after 0 ls)) cut ∙ short_of_lines line lines less

none : (lines : List (List ℕ)) → length lines < 1 → lines ≡ []
none [] less = refl
none (line ∷ lines) less = absurd (omega (arith, less))

no_line : (bytes : List ℕ) → length (whole_lines bytes) < 1 → complete_commands bytes ≡ []
no_line bytes less = ap (λ (ls : List (List ℕ)). filter has_its_lines (commands_after 0 ls)) (none (whole_lines bytes) less)

-- one command more
Replies-push : (s u t : State) (cs : List Command) (out reply : List ℕ) (c : Command) → Replies s cs out u → Answers u c reply t → Replies s (cs ++ c ∷ []) (out ++ reply) t
Replies-push s u t [] out reply c done answers =
    (t, reply, [], subst (λ (x : State). Answers x c reply t) done.1 answers, ap (λ (o : List ℕ). o ++ reply) done.0 ∙ sym (append-nil reply), (refl, refl))
Replies-push s u t (d ∷ cs) out reply c done answers = (
  done.0,
  done.1,
  done.2 ++ reply,
  done.3,
  ap (λ (o : List ℕ). o ++ reply) done.4 ∙ append_assoc done.1 done.2 reply,
  Replies-push done.0 u t cs done.2 reply c done.5 answers,
)

-- what was read of a line, and what its request took
command_taken : (mid next new : Standing) (held : Option (List ℕ)) (reply : List ℕ) → (took : TakesLine 8192 (to_come mid) (to_come next) held) → (serves : Serves (request_kept held) next new reply)
    → TakesLines (to_come mid) (to_come new) (took.0 ∷ serves.lines)
command_taken mid next new held reply took serves = lines-more (to_come mid) (to_come next) (to_come new) (took.0 ∷ []) serves.lines took.1 serves.taken

-- are the next command
next_command : (mid next new : Standing) (held : Option (List ℕ)) (reply : List ℕ) → TakesLine 8192 (to_come mid) (to_come next) held → (serves : Serves (request_kept held) next new reply)
    → commands_left mid ≡ prepend (command_of (request_kept held) serves.lines ∷ []) (commands_left new)
next_command mid next new held reply took serves =
    let line = took.0 in
    let asked : request_kept held ≡ request_of line = ap request_kept took.2 in
    let enough = subst (λ (r : Request). IsTakenBy (lines_taken r) serves.lines (to_come new)) asked serves.enough in
    commands-lines (to_come mid).bytes
    ∙ ap (option_map (commands_after 0)) (command_taken mid next new held reply took serves).taken
    ∙ one_command line serves.lines (to_come new).bytes enough.0 (λ less. (enough.1 less).1)
    ∙ ap (λ (r : Request). prepend (command_of r serves.lines ∷ []) (commands_left new)) (sym asked)

-- a complete one, unless the end has come
next_complete : (mid next new : Standing) (held : Option (List ℕ)) (reply : List ℕ) → TakesLine 8192 (to_come mid) (to_come next) held → (serves : Serves (request_kept held) next new reply)
    → (to_come new).ended ≡ false → TakesCommands (to_come mid) (to_come new) (command_of (request_kept held) serves.lines ∷ [])
next_complete mid next new held reply took serves going =
    let line = took.0 in
    let asked : request_kept held ≡ request_of line = ap request_kept took.2 in
    let enough = subst (λ (r : Request). IsTakenBy (lines_taken r) serves.lines (to_come new)) asked serves.enough in
    let whole = (command_taken mid next new held reply took serves).whole going in
    let all : length serves.lines ≡ lines_taken (request_of line) = elim (cases_lt (length serves.lines) (lines_taken (request_of line))) [
      | inl less ↦ absurd (clash (to_come new).ended (enough.1 less).0 going)
      | inr more ↦ omega (arith, enough.0)
    ] in
    record {
      bytes = whole.bytes;
      taken = whole.taken;
      cut = λ rest.
          complete_command line serves.lines (whole.bytes ++ rest) rest (whole.cut rest) all
          ∙ ap (λ (r : Request). command_of r serves.lines ∷ complete_commands rest) (sym asked);
    }

taken-more : (old mid new : Option (List Command)) (done : List Command) (c : Command) → old ≡ prepend done mid → mid ≡ prepend (c ∷ []) new → old ≡ prepend (done ++ c ∷ []) new
taken-more old mid new done c first next = first ∙ ap (prepend done) next ∙ prepend-prepend new done (c ∷ [])

complete-more : (old mid new : Stream) (done : List Command) (c : Command) → TakesCommands old mid done → TakesCommands mid new (c ∷ []) → TakesCommands old new (done ++ c ∷ [])
complete-more old mid new done c s t = record {
  bytes = s.bytes ++ t.bytes;
  taken = s.taken ∙ ap (onto s.bytes) t.taken ∙ onto-onto new s.bytes t.bytes;
  cut = λ rest.
      ap complete_commands (append_assoc s.bytes t.bytes rest) ∙ s.cut (t.bytes ++ rest) ∙ ap (λ (cs : List Command). done ++ cs) (t.cut rest)
      ∙ sym (append_assoc done (c ∷ []) (complete_commands rest));
}

-- no command was served
pub served-none : (s : Standing) → Served s s
served-none s = record {
  commands = [];
  output = [];
  taken = prepend-none (commands_left s);
  whole = λ _. record { bytes = []; taken = onto-none (to_come s); cut = λ rest. refl };
  written = append-none s.written;
  replies = (refl, refl);
}

-- one command more was served
pub served-more : (old mid next new : Standing) (held : Option (List ℕ)) → Served old mid → TakesLine 8192 (to_come mid) (to_come next) held → next.written ≡ mid.written → next.state ≡ mid.state
    → SendsReply (request_kept held) next new → Served old new
served-more old mid next new held done took same still sends =
    let serves = sends.2 in
    let c = command_of (request_kept held) serves.lines in
    record {
      commands = done.commands ++ c ∷ [];
      output = done.output ++ sends.0;
      taken = taken-more (commands_left old) (commands_left mid) (commands_left new) done.commands c done.taken (next_command mid next new held sends.0 took serves);
      whole = λ going.
          let last = next_complete mid next new held sends.0 took serves going in
          complete-more (to_come old) (to_come mid) (to_come new) done.commands c (done.whole (ap (λ (s : Stream). s.ended) last.taken ∙ going)) last;
      written = sends.1 ∙ ap (λ (o : Option (List ℕ)). append o sends.0) (same ∙ done.written) ∙ append-append old.written done.output sends.0;
      replies = Replies-push old.state mid.state new.state done.commands done.output sends.0 c done.replies (subst (λ (s : State). Answers s c sends.0 new.state) still serves.answers);
    }

-- what was taken is at the front
some_front : (commands taken : List Command) (new : Option (List Command)) → Some commands ≡ prepend taken new → (rest : List Command) × (commands ≡ taken ++ rest)
some_front commands taken None e = absurd (cc)
some_front commands taken (Some rest) e = (rest, cc)

-- where a run begins
abbrev pub start : Option (List ℕ) → Option (List ℕ) → State → Standing
start left written state = record { left = left; fed = record { bytes = []; ended = false }; written = written; state = state }

-- a read failed after these commands, and what was read of the next one is none
left_read : (left before : Option (List ℕ)) (s : State) (mid : Standing) (new : Moment) (bytes : List ℕ) → Served (start left before s) mid
    → to_come mid ≡ onto bytes (unread new.left) → complete_commands bytes ≡ [] → new.written ≡ mid.written → new.state ≡ mid.state
    → IfSome left (λ input. IsLeft ReadFailed input (moment_of (start left before s)) new)
left_read None before s mid new bytes done taken none same still = tt
left_read (Some input) before s mid new bytes done taken none same still =
    let d = done.whole (ap (λ (t : Stream). t.ended) taken) in
    let commands : complete_commands (d.bytes ++ bytes) ≡ done.commands = d.cut bytes ∙ ap (λ (cs : List Command). done.commands ++ cs) none ∙ append-nil done.commands in
    let front = some_front (commands_of input) done.commands (commands_left mid) done.taken in (
      d.bytes ++ bytes,
      front.0,
      done.output,
      ap (λ (t : Stream). t.bytes) (d.taken ∙ ap (onto d.bytes) taken ∙ onto-onto (unread new.left) d.bytes bytes),
      front.1 ∙ ap (λ (cs : List Command). cs ++ front.0) (sym commands),
      same ∙ done.written,
      subst (λ (t : State). Replies s (complete_commands (d.bytes ++ bytes)) done.output t) (sym still)
          (subst (λ (cs : List Command). Replies s cs done.output mid.state) (sym commands) done.replies),
    )

-- a read failed in a command line
pub left-line : (left before : Option (List ℕ)) (s : State) (mid : Standing) (new : Moment) → Served (start left before s) mid → FailsWithin 1 (to_come mid) new.left
    → new.written ≡ mid.written → new.state ≡ mid.state → IfSome left (λ input. IsLeft ReadFailed input (moment_of (start left before s)) new)
left-line left before s mid new done fails same still = left_read left before s mid new fails.bytes done fails.taken (no_line fails.bytes fails.few) same still

-- a device failed in the next command
pub left-cut : (stop : Stop) (left before : Option (List ℕ)) (s : State) (mid next new : Standing) (held : Option (List ℕ)) → Served (start left before s) mid
    → TakesLine 8192 (to_come mid) (to_come next) held → next.written ≡ mid.written → next.state ≡ mid.state → IsCut stop (request_kept held) next new
    → IfSome left (λ input. IsLeft stop input (moment_of (start left before s)) (moment_of new))
left-cut ReadFailed left before s mid next new held done took same still cut =
    let fails = cut.0 in
    let whole = took.1.whole (ap (λ (t : Stream). t.ended) fails.taken) in
    let asked : request_kept held ≡ request_of took.0 = ap request_kept took.2 in
    left_read left before s mid (moment_of new) (whole.bytes ++ fails.bytes) done
    (whole.taken ∙ ap (onto whole.bytes) fails.taken ∙ onto-onto (unread new.left) whole.bytes fails.bytes)
    (no_command took.0 (whole.bytes ++ fails.bytes) (whole_lines fails.bytes) (whole.cut fails.bytes) (subst (λ (r : Request). length (whole_lines fails.bytes) < lines_taken r) asked fails.few))
    (cut.1 ∙ same) (cut.2 ∙ still)
left-cut WriteFailed None before s mid next new held done took same still cut = tt
left-cut WriteFailed (Some input) before s mid next new held done took same still cut =
    let serves = cut.2 in
    let c = command_of (request_kept held) serves.lines in
    let old = start (Some input) before s in
    let front = some_front (commands_of input) (done.commands ++ c ∷ []) (commands_left new)
    (taken-more (commands_left old) (commands_left mid) (commands_left new) done.commands c done.taken (next_command mid next new held cut.0 took serves)) in (
      done.commands,
      c,
      front.0,
      done.output,
      cut.0,
      mid.state,
      front.1 ∙ append_assoc done.commands (c ∷ []) front.0,
      subst (λ (w : Option (List ℕ)). WritesPart w cut.0 new.written) (same ∙ done.written) cut.1,
      done.replies,
      subst (λ (t : State). Answers t c cut.0 new.state) still serves.answers,
    )
