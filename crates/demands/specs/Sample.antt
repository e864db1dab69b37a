-- Records to compute with: small sound files, written field by field in document 01's order (RULES 2.2 to 2.4).
use Rattle.std.specs.Prelude.{ℕ, List, [], ◌∷◌, ◌++◌, take}
use Prim.Native.String.{String}
use Rattle.laws.specs.Ascii.{ascii, zeros, spaces}
use Rattle.judge.specs.Records.{file_of}

-- a text in a field of n bytes
abbrev pub in_field : ℕ → String → List ℕ
in_field n s = take n (ascii s ++ spaces n)

abbrev pub q : List ℕ
q =
    ascii "0256Q50400042" ++ ascii "0000000012" ++ in_field 140 "PENSIONSKASSE" ++ ascii "261116" ++ ascii "01" ++ ascii "261117" ++ ascii "N"
    ++ zeros 10 ++ spaces 68

-- a transfer by BIC: payee, T14a and T14b
abbrev pub t : String → String → String → List ℕ
t payee euros cents =
    ascii "0768T50400042EUR1234567890" ++ zeros 14 ++ spaces 3 ++ zeros 10
    ++ ascii "ABCDDEFF   " ++ spaces 143 ++ ascii "AU " ++ in_field 140 payee ++ spaces 70 ++ in_field 35 "/123456"
    ++ ascii "EUR" ++ ascii euros ++ ascii cents ++ spaces 140 ++ zeros 8 ++ spaces 25 ++ ascii "0000" ++ spaces 62 ++ zeros 1
    ++ spaces 51 ++ zeros 2

-- Z3 and Z4
abbrev pub z : String → String → List ℕ
z euros payments = ascii "0256Z" ++ ascii euros ++ ascii payments ++ spaces 221

-- one payment of 120 euros, with these cents, to a payee
abbrev pub one : String → String → List ℕ
one payee cents = file_of q (t payee "00000000000120" cents ∷ []) (z "000000000000120" "000000000000001")

-- two, of 120,50 and of 79,75 (RULES 11), the second to a payee, with this Z3
abbrev pub first : List ℕ
first = t "A. MUSTER" "00000000000120" "500"

abbrev pub second : String → List ℕ
second payee = t payee "00000000000079" "750"

abbrev pub last : String → List ℕ
last euros = z euros "000000000000002"

abbrev pub two : String → String → List ℕ
two payee euros = file_of q (first ∷ second payee ∷ []) (last euros)

-- the lists that go with them
abbrev pub transfer : List ℕ
transfer = ascii "EGAU"

abbrev pub cheque : List ℕ
cheque = ascii "BR"
