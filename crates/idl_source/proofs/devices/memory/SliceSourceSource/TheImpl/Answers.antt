use Rattle.std.proofs.Common.{refl, sym, ap, arith, Some, min, drop, length, length-drop}
use Rattle.idl_source.proofs.DeviceLemmas.{take-take_front, min-length-zero}
use Rattle.idl_source.proofs.devices.memory.SliceSourceSource.TheImpl.Goals as goal

pub read-tells : goal.read-tells
read-tells g c =
    let bytes = c.args.self.now in
    let n = min (length bytes) (length c.args.buffer.now) in
    let given = rw c.ensures.count at c.ensures.given in
    let left = rw c.ensures.count at c.ensures.left in
    rw c.ensures.count (rw (given, left) (record {
      count = omega arith;
      given = ap Some (sym (take-take_front bytes (drop n c.args.buffer.now) n (omega arith)));
      end = λ none. min-length-zero bytes (length c.args.buffer.now) c.requires.room none;
      ok = refl;
      err = tt;
      kept = tt;
      falls = λ some. omega (arith, length-drop n bytes);
      bounded = omega (arith, length-drop n bytes);
    }))
