mod Parted
