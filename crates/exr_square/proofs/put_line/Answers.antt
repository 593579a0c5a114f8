-- `exr_square::put_line` meets its contract. Assumes nothing.
use native.Mathlib.Omega.{arith}
use borrow.Author.Rules.{rules}
use Rattle.exr_square.proofs.Squares.{channel_end, line_put}
use Rattle.exr_square.proofs.put_line.Goals as goal

pub put_channel-red-requires : goal.put_channel-red-requires
put_channel-red-requires c = record { channel_bound = search rules; side_in_bounds = (search rules, omega (arith, channel_end _ _ _ _ c.put_channel-green.ensures)) }

pub put_channel-requires : goal.put_channel-requires
put_channel-requires c = record { channel_bound = search rules; side_in_bounds = (search rules, omega (arith, channel_end _ _ _ _ c.put_channel-green.ensures, channel_end _ _ _ _ c.put_channel-red.ensures)) }

pub returns : goal.returns
returns c =
    line_put _ _ _ c.put_head.ensures
    c.put_channel-green.ensures
    c.put_channel-red.ensures c.put_channel.ensures
