use Rattle.std.proofs.Common.{◌≡◌, ◌≤◌, take}
use Rattle.std.specs.List.{AllByRecursion}
use Rattle.std.specs.Str.Parse.{digits_value}
use Rattle.spelling.specs.Letters.{IsHexDigit}
use Rattle.spelling.proofs.sets.scan_mask.Given as goal

abbrev pub invariant-loop-place : goal.invariant-loop-place
invariant-loop-place l = record {
  short : l.place ≤ 8;
  digits : AllByRecursion IsHexDigit (take l.place l.text);
  mask : l.mask ≡ digits_value 16 (take l.place l.text);
}
