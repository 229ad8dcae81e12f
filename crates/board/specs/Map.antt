-- Where the registers of the control block stand. Assumes nothing.
use Rattle.std.specs.Prelude.{ℕ, ◌/◌, ◌%◌, Bool, if◌then◌else◌, ◌&&◌, Some, None, Option, ◌==◌, nat_le}
use Rattle.board.specs.declared.map.Register.{Register}
use Rattle.board.specs.declared.map.Register.TheVariants.{Control, IntEn, IntFlags, ClkFreq}

-- the control block owns 0x1B000000 to 0x1B000FFF
abbrev pub owns : ℕ → Bool
owns a = nat_le 0x1B000000 a && nat_le a 0x1B000FFF

-- offsets 0x00 CONTROL, 0x10 INT_EN, 0x20 INT_FLAGS, 0x30 CLK_FREQ; nothing else has a register
abbrev pub register_at : ℕ → Option Register
register_at a =
    if a / 16 % 256 == 0 then Some Control
    else if a / 16 % 256 == 1 then Some IntEn
    else if a / 16 % 256 == 2 then Some IntFlags
    else if a / 16 % 256 == 3 then Some ClkFreq
    else None
