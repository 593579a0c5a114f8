-- `bc6_endpoints::end` meets its contract, in each format. Assumes nothing.
use native.Mathlib.Omega.{arith}
use Rattle.bc6_half.proofs.Formats.{is_signed, is_unsigned}
use Rattle.bc6_endpoints.proofs.Channels.{transform_asks, inside, end_is, narrow_asks, narrow_told}
use Rattle.bc6_endpoints.proofs.end.Goals as goal

pub transform_one-moved-requires : goal.transform_one-moved-requires
transform_one-moved-requires g c = transform_asks c.requires _ c.sign_extend.type_inv c.sign_extend.ensures

pub unquantize_signed-requires : goal.unquantize_signed-requires
unquantize_signed-requires g c =
    let a = c.requires in (
      omega (arith, a.narrow.some, a.narrow.own),
      omega (arith, a.narrow.most),
      rw (is_signed c.if-this-ne0.true) at (inside a _ c.sign_extend.type_inv c.sign_extend.ensures _ _ c.transform_one-moved.type_inv c.transform_one-moved.ensures),
    )

pub returns-then-this-ne0 : goal.returns-then-this-ne0
returns-then-this-ne0 g c =
    end_is c.requires _ c.sign_extend.type_inv c.sign_extend.ensures _ _ c.transform_one-moved.type_inv c.transform_one-moved.ensures (is_signed c.if-this-ne0.true) _
    c.unquantize_signed.type_inv c.unquantize_signed.ensures

pub unquantize_narrow-requires : goal.unquantize_narrow-requires
unquantize_narrow-requires g c =
    let a = c.requires in
    narrow_asks (omega (arith, a.narrow.some, a.narrow.own)) a.narrow.most
    (rw (is_unsigned c.if-this-ne0.false) at (inside a _ c.sign_extend.type_inv c.sign_extend.ensures _ _ c.transform_one-moved.type_inv c.transform_one-moved.ensures))

pub returns : goal.returns
returns g c =
    end_is c.requires _ c.sign_extend.type_inv c.sign_extend.ensures _ _ c.transform_one-moved.type_inv c.transform_one-moved.ensures (is_unsigned c.if-this-ne0.false) _
    c.unquantize_narrow.type_inv (narrow_told _ _ _ c.unquantize_narrow.ensures)
