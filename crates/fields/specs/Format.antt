-- The format of a slip: one row for each field (01, "The lot slip"). A row has the field's label, which 01 calls its tag, the least
-- and the most bytes of its value, and the lowest and the highest that each of them may be: 00 and FF where any byte may stand.
-- Assumes nothing.
use Rattle.fields.specs.declared.Row.{Row}

-- 01 expiry: 8 digits
abbrev pub expiry_row : Row
expiry_row = record { label = 0x01; least = 8; most = 8; low = 0x30; high = 0x39 }

-- 02 lot: 1 to 32 bytes, each 21..7E
abbrev pub lot_row : Row
lot_row = record { label = 0x02; least = 1; most = 32; low = 0x21; high = 0x7e }

-- 03 amount: 4 bytes
abbrev pub amount_row : Row
amount_row = record { label = 0x03; least = 4; most = 4; low = 0x00; high = 0xff }

-- 7F seal: length 4 to 19
abbrev pub seal_row : Row
seal_row = record { label = 0x7f; least = 4; most = 19; low = 0x00; high = 0xff }
