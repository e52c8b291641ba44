use Rattle.std.proofs.Common.{arith}
use Rattle.replay.proofs.stores.stores_with.Goals as goal

pub returns : goal.returns
returns g c =
    let fits = c.in_ok-lengthen_all.ensures.exact in
    let rules = fits.rules (omega (arith, c.new.ensures.len)) in
    let blocks = fits.blocks (omega (arith, c.new-2.ensures.len)) in
    let properties = fits.properties (omega (arith, c.new-3.ensures.len)) in
    let packet_frames = fits.packet_frames (omega (arith, c.new-4.ensures.len)) in
    let address_frames = fits.address_frames (omega (arith, c.new-5.ensures.len)) in
    λ i. record { rules = rules i; blocks = blocks i; properties = properties i; packet_frames = packet_frames i; address_frames = address_frames i }
