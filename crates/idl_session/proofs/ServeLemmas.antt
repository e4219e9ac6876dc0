-- What one request does.
use Rattle.std.proofs.Common.{◌≡◌, ◌<◌, ℕ, List, [], Result, Ok, Err, arith, subst, sym}
use Rattle.std.specs.Result.{IfErr}
use Rattle.idl_source.specs.devices.Device.{WritesPart}
use Rattle.idl_session.specs.Answers.{Answers}
use Rattle.idl_session.specs.Commands.{command_of}
use Rattle.idl_session.specs.Requests.{Request, lines_taken}
use Rattle.idl_session.specs.Serving.{Standing, Serves, IsCut, to_come}
use Rattle.idl_session.specs.Streams.{Stream, TakesLines}
use Rattle.idl_loader.specs.declared.stop.Stop.{Stop}
use Rattle.idl_loader.specs.declared.stop.Stop.TheVariants.{WriteFailed}
use Rattle.idl_session.proofs.StreamLemmas.{lines-none}

-- a request that takes no further line was served
pub serves-alone : (request asked : Request) (old new : Standing) (reply : List ℕ)
    → asked ≡ request → lines_taken asked ≡ 0 → to_come old ≡ to_come new → Answers old.state (command_of asked []) reply new.state → Serves request old new reply
serves-alone request asked old new reply same none stays answers =
    let Goal : Request → Type 0 = λ r. Serves r old new reply in
    subst Goal same (record {
      lines = [];
      taken = subst (λ (s : Stream). TakesLines s (to_come new) []) (sym stays) (lines-none (to_come new));
      enough = (omega (arith, none), λ (h : 0 < lines_taken asked). absurd (omega (arith, none, h)));
      answers = answers;
    })

-- a write failed in the reply to a request that was served
pub cut-write : {T : Type 0} (r : Result T Stop) (request : Request) (old new : Standing) (reply : List ℕ)
    → IfErr r (λ stop. stop ≡ WriteFailed) → WritesPart old.written reply new.written → Serves request old new reply
    → IfErr r (λ stop. IsCut stop request old new)
cut-write (Ok value) request old new reply why part serves = tt
cut-write (Err stop) request old new reply why part serves =
    subst (λ (stop' : Stop). IsCut stop' request old new) (sym why) (reply, part, serves)
