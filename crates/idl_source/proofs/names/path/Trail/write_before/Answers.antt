use Rattle.std.proofs.Common.{◌≡◌, ◌∷◌, ◌++◌, ◌+◌, ◌-◌, ◌∙◌, ℕ, List, ap, sym, drop, set, length, arith}
use Rattle.idl_source.specs.names.Name.{segments}
use Rattle.idl_source.specs.names.Path.{Path, slashed}
use Rattle.idl_source.proofs.PathLemmas.{down-written, slashed-written, drop-written}
use borrow.Rule.Slice.PartMut.{put_mid}
use Rattle.idl_source.proofs.names.path.Trail.write_before.Goals as goal

-- the text that the array ends with
text : (c : goal.After-copy_from_slice) → let start = c.self.inside.start in let place = start - length c.args.segment.now - 1 in
    drop place (put_mid (place + 1) (start - (place + 1)) (set c.self.inside.array place 47) c.copy_from_slice.new.self) ≡ 47 ∷ (c.args.segment.now ++ drop start c.self.inside.array)
text c =
    let start = c.self.inside.start in
    let place = start - length c.args.segment.now - 1 in
    ap (λ (s : List ℕ). drop place (put_mid (place + 1) (start - (place + 1)) (set c.self.inside.array place 47) s)) c.copy_from_slice.ensures.after
    ∙ drop-written c.self.inside.array c.args.segment.now place start (omega arith) (omega arith)

pub invariant_of-self : goal.invariant_of-self
invariant_of-self c = (omega arith, ap (λ (t : List ℕ). slashed (drop 1 (segments t))) (text c) ∙ slashed-written c.args.segment.now _ c.requires.one c.self.invariant.1 ∙ sym (text c))

pub returns-clause-some : goal.returns-clause-some
returns-clause-some c =
    let down = ap (λ (t : List ℕ). drop 1 (segments t)) (text c) ∙ down-written c.args.segment.now _ c.requires.one c.self.invariant.1 in
    ap (λ (d : List (List ℕ)). let p : Path = record { up = c.self.inside.up; down = d } in p) down
    ∙ ap (λ (p : Path). let q : Path = record { up = p.up; down = c.args.segment.now ∷ p.down } in q) c.self.view_is
