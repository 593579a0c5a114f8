-- `bc6_image::check_face` meets its contract: a law for each return. Assumes nothing.
use borrow.Author.Rules.{rules}
use mathlib.Core.Path.{◌≡◌, ap, sym, ◌∙◌}
use mathlib.Core.Bool.{true}
use Prim.Native.Nat.{ℕ, ◌-◌, ◌*◌, ◌/◌}
use native.Mathlib.Omega.{arith}
use lib.Dec.{eqb}
use Rattle.bcn_spec.specs.Bits.{block_size}
use Rattle.bc6_image.specs.Face.{row_size}
use Rattle.bc6_image.proofs.Calls.{refused_format, refused_blocks, done_empty, refused_pitch, refused_row, refused_last, done_room}
use Rattle.bc6_image.proofs.check_face.Goals as goal

pub returns-then-format-gt1 : goal.returns-then-format-gt1
returns-then-format-gt1 c = refused_format _ _ _ _ _ _ _ c.if-format-gt1.true

pub returns-then-not-holds_face : goal.returns-then-not-holds_face
returns-then-not-holds_face c =
    let s = c.args in
    refused_blocks s.alpha s.size s.format s.width s.height s.pitch s.room (search rules) (sym c.holds_face.ensures ∙ c.if-not-holds_face.true)

pub returns-then-size-eq0 : goal.returns-then-size-eq0
returns-then-size-eq0 c =
    let s = c.args in
    done_empty s.alpha s.size s.format s.width s.height s.pitch s.room (search rules)
    (sym c.holds_face.ensures ∙ c.if-not-holds_face.false) (search rules)

pub returns-then-pitch-row : goal.returns-then-pitch-row
returns-then-pitch-row c =
    let whole : (let s = c.args in eqb s.size (block_size * (s.width * s.height)) ≡ true) = sym c.holds_face.ensures ∙ c.if-not-holds_face.false in
    let row : (let s = c.args in c.lanes_of.result * (4 * s.width) ≡ row_size s.alpha s.width) = let s = c.args in ap (λ (k : ℕ). k * (4 * s.width)) c.lanes_of.ensures in
    let s = c.args in
    let r = row in
    refused_pitch s.alpha s.size s.format s.width s.height s.pitch s.room (search rules) whole c.if-size-eq0.false (omega arith)

pub returns-then-room-row : goal.returns-then-room-row
returns-then-room-row c =
    let whole : (let s = c.args in eqb s.size (block_size * (s.width * s.height)) ≡ true) = sym c.holds_face.ensures ∙ c.if-not-holds_face.false in
    let row : (let s = c.args in c.lanes_of.result * (4 * s.width) ≡ row_size s.alpha s.width) = let s = c.args in ap (λ (k : ℕ). k * (4 * s.width)) c.lanes_of.ensures in
    let s = c.args in
    let r = row in
    refused_row s.alpha s.size s.format s.width s.height s.pitch s.room (search rules) whole c.if-size-eq0.false (omega arith) (omega arith)

pub returns-then-room-row-2 : goal.returns-then-room-row-2
returns-then-room-row-2 c =
    let whole : (let s = c.args in eqb s.size (block_size * (s.width * s.height)) ≡ true) = sym c.holds_face.ensures ∙ c.if-not-holds_face.false in
    let row : (let s = c.args in c.lanes_of.result * (4 * s.width) ≡ row_size s.alpha s.width) = let s = c.args in ap (λ (k : ℕ). k * (4 * s.width)) c.lanes_of.ensures in
    let last : (let s = c.args in (s.room - c.lanes_of.result * (4 * s.width)) / s.pitch ≡ (s.room - row_size s.alpha s.width) / s.pitch) = let s = c.args in ap (λ (k : ℕ). (s.room - k) / s.pitch) row in
    let s = c.args in
    let r = row in
    refused_last s.alpha s.size s.format s.width s.height s.pitch s.room (search rules) whole c.if-size-eq0.false (omega arith) (omega arith)
    (let l = last in omega arith)

pub returns : goal.returns
returns c =
    let whole : (let s = c.args in eqb s.size (block_size * (s.width * s.height)) ≡ true) = sym c.holds_face.ensures ∙ c.if-not-holds_face.false in
    let row : (let s = c.args in c.lanes_of.result * (4 * s.width) ≡ row_size s.alpha s.width) = let s = c.args in ap (λ (k : ℕ). k * (4 * s.width)) c.lanes_of.ensures in
    let last : (let s = c.args in (s.room - c.lanes_of.result * (4 * s.width)) / s.pitch ≡ (s.room - row_size s.alpha s.width) / s.pitch) = let s = c.args in ap (λ (k : ℕ). (s.room - k) / s.pitch) row in
    let s = c.args in
    let r = row in
    done_room s.alpha s.size s.format s.width s.height s.pitch s.room (search rules) whole c.if-size-eq0.false (omega arith) (omega arith)
    (let l = last in omega arith)
