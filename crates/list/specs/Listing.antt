-- The listing of a byte string.
use Rattle.std.specs.Prelude.{cond, List, [], ℕ, ltb, length}
use Rattle.analysis.specs.Result.{result_in}
use Rattle.form.specs.Refusals.{Verdict, fine, fault}
use Rattle.lines.specs.Lines.{result_lines}
use Rattle.network.specs.Faults.{network_fault}
use Rattle.network.specs.Network.{Network, edition, network_of}
use Rattle.text.specs.Texts.{ascii, pair_line}

-- A refusal prints `refused NUMBER at PLACE` alone.
unfoldable pub refused_line : ℕ → ℕ → List ℕ
refused_line number place = pair_line (ascii "refused ") number (ascii " at ") place

-- The listing by the first fault, if there is one. The switch count is the file's.
unfoldable pub listing_for : Verdict → Network → List ℕ
listing_for fine net = result_lines (length net.switches) (result_in net)
listing_for (fault number place) net = refused_line number place

-- A byte string is refused by 1 to 7, or analysed, in room enough for any result.
unfoldable pub listing : List ℕ → List ℕ
listing s = listing_for (network_fault edition s) (network_of s)

-- Room for any listing.
abbrev pub listing_room : ℕ
listing_room = 262144

-- What is put into a buffer: nothing where it has less room than that.
unfoldable pub put_in : ℕ → List ℕ → List ℕ
put_in room s = cond (ltb room listing_room) [] (listing s)
