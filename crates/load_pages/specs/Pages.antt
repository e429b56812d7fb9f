-- What stands ahead of the sections of a page and behind them: HTML that needs nothing from elsewhere.
use Rattle.std.specs.Prelude.{ℕ, List, [], ◌∷◌, ◌++◌, codes}

-- the most bytes of a page
abbrev pub most_page_bytes : ℕ
most_page_bytes = 30_000_000

unfoldable pub head_text : List ℕ
head_text =
    codes "<!DOCTYPE html><html lang=en><head><meta charset=utf-8><meta name=viewport content='width=device-width, initial-scale=1'>"
    ++ codes "<meta name=color-scheme content='light dark'><title>Loads</title><style>:root{color-scheme:light dark}"

-- what holds on each screen, and the colours by day: the fuller the darker
unfoldable pub light_text : List ℕ
light_text =
    codes "body{margin:1em;font:14px system-ui,sans-serif;background:#fff;color:#111}div{overflow-x:auto}"
    ++ codes "table{border-spacing:0;border:solid #ccc;border-width:1px 0 0 1px}"
    ++ codes "th,td{padding:.2em .4em;border:solid #ccc;border-width:0 1px 1px 0;text-align:right;white-space:nowrap}"
    ++ codes "th:first-child{position:sticky;left:0;text-align:left;background:#fff}"
    ++ codes ".s0{--n:0}.s1{--n:1}.s2{--n:2}.s3{--n:3}.s4{--n:4}.s5{--n:5}.s6{--n:6}.s7{--n:7}.s8{--n:8}.s9{--n:9}.s10{--n:10}"
    ++ codes "td[class]{background:hsl(210 70% calc(97% - var(--n)*6.5%))}.s8,.s9,.s10{color:#fff}"

-- in the dark the fuller the brighter
unfoldable pub dark_text : List ℕ
dark_text =
    codes "@media screen and (prefers-color-scheme:dark){body,th:first-child{background:#111;color:#eee}table,th,td{border-color:#444}"
    ++ codes "td[class]{background:hsl(210 60% calc(15% + var(--n)*4%))}.s8,.s9,.s10{color:#000}}"

-- on paper each class begins a sheet that lies across, which holds a month of days
unfoldable pub print_text : List ℕ
print_text =
    codes "@media print{@page{size:landscape}section+section{break-before:page}div{overflow:visible}table{font-size:60%}tr{break-inside:avoid}"
    ++ codes "td{-webkit-print-color-adjust:exact;print-color-adjust:exact;padding:.1em;min-width:3.4em;white-space:normal}"
    ++ codes "th[scope=col]+th{writing-mode:vertical-rl}}"

unfoldable pub title_text : List ℕ
title_text =
    codes "</style></head><body><h1>Loads</h1><p>Seats held of the limit, in each class with those below it, by flight and day of departure. "
    ++ codes "The colour says how many tenths of the limit are held."

abbrev pub opening_text : List ℕ
opening_text = head_text ++ light_text ++ dark_text ++ print_text ++ title_text

unfoldable pub closing_text : List ℕ
closing_text = 10 ∷ codes "</html>" ++ 10 ∷ []
